-- The byte form and the number that bytes write undo each other, at every width.
use Rattle.std.specs.Prelude.{◌≡◌, ℕ, zero, suc, ◌+◌, ◌-◌, ◌*◌, ◌/◌, ◌%◌, ◌^◌, ◌<◌, ◌≤◌, true, List, [], ◌∷◌, ◌++◌, length, take, drop, Some, nat_eq, slice_index, slice_index_or, slice_set, refl}
use Rattle.std.proofs.Common.{sym, ap, ap₂, ◌∙◌, append_assoc, pow-suc, add-mul, mul_assoc, mul_right_comm, add-one, arith, length-append, eq-eqb}
use Rattle.std.specs.Int.Digits.{number_from_digits, number_from_digits_after, AllBelowBase}
use Rattle.std.proofs.lemmas.List.{drop-set, take_more, take_all, length_push}
use Rattle.std.proofs.ByRecursion.{All-push, All-append, All-get_or}
use Rattle.std.proofs.lemmas.Int.Digits.{number_push, number_more, number_after_append}
use Rattle.byte_form.specs.Bytes.{bytes_of, number_of}

pub length_bytes : (w n : ℕ) → length (bytes_of w n) ≡ w
unfolding bytes_of
length_bytes zero n = refl
length_bytes (suc w) n = length_push (bytes_of w (n / 256)) (n % 256) ∙ rw add-one (ap suc (length_bytes w (n / 256)))

pub under_bytes : (w n : ℕ) → AllBelowBase 256 (bytes_of w n)
unfolding bytes_of
under_bytes zero n = tt
under_bytes (suc w) n = All-push (λ d. d < 256) (bytes_of w (n / 256)) (n % 256) (under_bytes w (n / 256)) (omega arith)

-- what a number's bytes write is the number
pub number_bytes : (w n : ℕ) → n < 256 ^ w → number_from_digits 256 (bytes_of w n) ≡ n
unfolding bytes_of
number_bytes zero n h = omega arith
number_bytes (suc w) n h =
    let p = pow-suc 256 w in
    let ih = number_bytes w (n / 256) (omega arith) in
    omega (arith, number_push 256 (bytes_of w (n / 256)) (n % 256))

pub read_back : (w n : ℕ) → n < 256 ^ w → number_of w (bytes_of w n) ≡ Some n
read_back w n h =
    let e : nat_eq (length (bytes_of w n)) w ≡ true = eq-eqb (length (bytes_of w n)) w (length_bytes w n) in
    rw e (ap Some (number_bytes w n h))

front : (ds : List ℕ) → AllBelowBase 256 ds → (i : ℕ) → i ≤ length ds → bytes_of i (number_from_digits 256 (take i ds)) ≡ take i ds
unfolding bytes_of
front ds u zero h = refl
front ds u (suc i) h =
    let d : slice_index_or ds i 0 < 256 = All-get_or (λ d. d < 256) ds i 0 (omega arith) u in
    let m : number_from_digits 256 (take (suc i) ds) ≡ number_from_digits 256 (take i ds) * 256 + slice_index_or ds i 0 = rw add-one at (number_more 256 ds i (omega arith)) in
    let t : take (suc i) ds ≡ take i ds ++ (slice_index ds i ∷ []) = rw add-one at (take_more ds i 0 (omega arith)) in
    let q : number_from_digits 256 (take (suc i) ds) / 256 ≡ number_from_digits 256 (take i ds) = omega arith in
    let r : number_from_digits 256 (take (suc i) ds) % 256 ≡ slice_index_or ds i 0 = omega arith in
    ap₂ (λ a b. bytes_of i a ++ (b ∷ [])) q r ∙ ap (λ bs. bs ++ (slice_index ds i ∷ [])) (front ds u i (omega arith)) ∙ sym t

-- the bytes of the number that bytes write are the bytes
pub bytes_number : (ds : List ℕ) → AllBelowBase 256 ds → bytes_of (length ds) (number_from_digits 256 ds) ≡ ds
bytes_number ds u =
    let t = take_all (length ds) ds (omega arith) in
    ap (λ xs. bytes_of (length ds) (number_from_digits 256 xs)) (sym t) ∙ front ds u (length ds) (omega arith) ∙ t

after : (n : ℕ) (ds : List ℕ) → number_from_digits_after 256 n ds ≡ n * 256 ^ length ds + number_from_digits 256 ds
after n [] = omega arith
after n (d ∷ ds) =
    let p = 256 ^ length ds in
    omega (arith, after (n * 256 + d) ds, after (0 * 256 + d) ds, pow-suc 256 (length ds), add-mul (n * 256) d p, add-mul (0 * 256) d p, mul_right_comm n 256 p, mul_assoc n p 256, ap (λ q. n * q) (pow-suc 256 (length ds)))

pub number_append : (xs ys : List ℕ) → number_from_digits 256 (xs ++ ys) ≡ number_from_digits 256 xs * 256 ^ length ys + number_from_digits 256 ys
number_append xs ys = number_after_append 256 0 xs ys ∙ after (number_from_digits 256 xs) ys

-- a number's bytes are those of its upper part and then those of its lower part
pub bytes_append : (a b high low : ℕ) → high < 256 ^ a → low < 256 ^ b → bytes_of (a + b) (high * 256 ^ b + low) ≡ bytes_of a high ++ bytes_of b low
bytes_append a b high low h l =
    let xs = bytes_of a high in
    let ys = bytes_of b low in
    let n : length (xs ++ ys) ≡ a + b = length-append xs ys ∙ ap₂ ◌+◌ (length_bytes a high) (length_bytes b low) in
    let v : number_from_digits 256 (xs ++ ys) ≡ high * 256 ^ b + low =
    number_append xs ys ∙ ap₂ ◌+◌ (ap₂ (λ p k. p * 256 ^ k) (number_bytes a high h) (length_bytes b low)) (number_bytes b low l)
    in ap₂ bytes_of (sym n) (sym v) ∙ bytes_number (xs ++ ys) (All-append (λ d. d < 256) xs ys (under_bytes a high) (under_bytes b low))

-- one more byte, written from the end on
pub fill : (i n : ℕ) (out : List ℕ) → 0 < i → i ≤ length out → bytes_of (i - 1) (n / 256) ++ drop (i - 1) (slice_set out (i - 1) (n % 256)) ≡ bytes_of i n ++ drop i out
unfolding bytes_of
fill zero n out p h = absurd (omega arith)
fill (suc k) n out p h =
    let e : suc k - 1 ≡ k = omega arith in
    let d : drop k (slice_set out k (n % 256)) ≡ n % 256 ∷ drop (suc k) out = rw add-one at (drop-set out k (n % 256) (omega arith)) in
    rw e (ap (λ r. bytes_of k (n / 256) ++ r) d ∙ sym (append_assoc (bytes_of k (n / 256)) (n % 256 ∷ []) (drop (suc k) out)))
