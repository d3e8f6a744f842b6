-- The searches of a row: the turn that ends a scan, the turn that goes on and the end, and the place where a search for a range ends.
use Rattle.std.proofs.Common.{◌≡◌, Ordering, ℕ, zero, suc, ◌+◌, ◌-◌, ◌<◌, ◌≤◌, Bool, true, false, cond, List, [], ◌∷◌, ◌++◌, map, length, append_assoc, get_or, take, drop, Some, None, Option, Ok, Err, Result, sym, refl, ap, ◌∙◌, inl, inr, arith}
use Rattle.std.proofs.lemmas.List.{drop_all, take_all, map_more, get_or-take, length-take-le}
use Rattle.std.proofs.lemmas.Bool.{cases_lt}
use Rattle.std.proofs.lemmas.Bool.Decides.{nat_tests}
use Rattle.std.specs.List.{slice_index_or, push}
use Rattle.std.specs.List.Sorted.{IsNonDecreasingBy, IsPartitionPoint, IsSearchInRange, IsBinarySearchResult}
use Rattle.std.specs.Ordering.{ordering_index}
use Rattle.std.specs.declared.cmp.Ordering.TheVariants.{Less, Equal, Greater}
use Rattle.rules.specs.declared.rule.Rule.{Rule as Stored}
use Rattle.rules.specs.Rules.{Rule, range, hop_of, order, earlier, covers, ordered, In, Earlier, Canonical}
use Rattle.rules.specs.Search.{best, better, closer, least_finish, greatest_start}
use Rattle.rules.specs.Boundaries.{next_boundary, nearest}
use Rattle.rules.proofs.Search.{best-++, closer_ranks}
use Rattle.rules.specs.Answers.{place_of, numbered}
use Rattle.rules.proofs.Places.{first, first_is_best, ordered_decides, order-less, order-equal, order-greater}
use Rattle.row_store.specs.Held.{IsPlace, Reaches}
use Rattle.row_store.proofs.Lists.{next_left}

module _ {X : Type 0} (f : X → Rule) (xs : List X) (i d : ℕ) (inv : first (λ r. covers r d) (map f xs) ≡ first (λ r. covers r d) (map f (drop i xs))) where
  pub first-here : (x : X) → ordered (map f xs) ≡ true → i < length xs → x ≡ get_or xs i x → true ≡ covers (f x) d → Some (f x) ≡ least_finish (map f xs) d
  unfolding first
  first-here x o h e t = sym (first_is_best (λ r. covers r d) (map f xs) ((ordered_decides (map f xs)).0 o) ∙ rw (inv, next_left f xs i x h e, ← t))

  pub first_on : (x : X) → i < length xs → x ≡ get_or xs i x → false ≡ covers (f x) d → first (λ r. covers r d) (map f xs) ≡ first (λ r. covers r d) (map f (drop (i + 1) xs))
  unfolding first
  first_on x h e t = rw (inv, next_left f xs i x h e, ← t)

  pub first-end : ordered (map f xs) ≡ true → length xs ≤ i → None ≡ least_finish (map f xs) d
  unfolding first
  first-end o h = sym (first_is_best (λ r. covers r d) (map f xs) ((ordered_decides (map f xs)).0 o) ∙ rw (inv, drop_all i xs h))

better_none : (lt : Rule → Rule → Bool) (o : Option Rule) → better lt o None ≡ o
better_none lt None = refl
better_none lt (Some x) = refl

pub closest_none : (d : ℕ) → None ≡ greatest_start [] d
unfolding best
closest_none d = refl

pub closest_on : {X : Type 0} (f : X → Rule) (xs : List X) (i d : ℕ) (o q : Option Rule) (x : X) → i < length xs → x ≡ get_or xs i x
    → o ≡ greatest_start (map f (take i xs)) d → q ≡ better closer o (cond (covers (f x) d) (Some (f x)) None) → q ≡ greatest_start (map f (take (i + 1) xs)) d
unfolding best
closest_on f xs i d o q x h e a b =
    let p : Rule → Bool = λ r. covers r d in
    let w = cond (covers (f x) d) (Some (f x)) None in
    b ∙ sym (rw (map_more f xs i x h, best-++ closer closer_ranks p (map f (take i xs)) (f (get_or xs i x) ∷ []), ← e, better_none closer w, ← a))

pub closest_end : {X : Type 0} (f : X → Rule) (xs : List X) (i d : ℕ) (o : Option Rule) → length xs ≤ i → o ≡ greatest_start (map f (take i xs)) d → o ≡ greatest_start (map f xs) d
closest_end f xs i d o h a = a ∙ rw (take_all i xs h)

module _ {A : Type 0} (num : A → ℕ) where
  in_at : (xs : List (Stored A)) (j : ℕ) (d : Stored A) → j < length xs → In (numbered num (slice_index_or xs j d)) (map (numbered num) xs)
  in_at [] j d h = absurd (omega arith)
  in_at (x ∷ xs) zero d h = inl refl
  in_at (x ∷ xs) (suc j) d h = inr (in_at xs j d (omega arith))

  rises : (x y r : Rule) → Earlier x y → ordering_index (order x r) ≤ ordering_index (order y r)
  rises x y r (inl a) = grind (arith, nat_tests)
  rises x y r (inr a) = grind (arith, nat_tests, a.0, a.1)

  -- in canonical order those before a range come first, and those after it last
  rising : (r : Rule) (xs : List (Stored A)) → Canonical (map (numbered num) xs) → IsNonDecreasingBy (λ x. ordering_index (order (numbered num x) r)) xs
  rising r [] c i j d a h = absurd (omega arith)
  rising r (x ∷ xs) c zero zero d a h = omega arith
  rising r (x ∷ xs) c zero (suc j) d a h = rises (numbered num x) (numbered num (slice_index_or xs j d)) r (c.1 _ (in_at xs j d (omega arith)))
  rising r (x ∷ xs) c (suc i) zero d a h = absurd (omega arith)
  rising r (x ∷ xs) c (suc i) (suc j) d a h = rising r xs c.2 i j d (omega arith) (omega arith)

  module _ (u v : ℕ) where
    before_equal : (x y : Rule) → Earlier x y → order y (range u v) ≡ Equal → order x (range u v) ≡ Less
    before_equal x y (inl a) e = grind (arith, nat_tests)
    before_equal x y (inr a) e = grind (arith, nat_tests, a.0, a.1)

    -- a place of the range is the one where it belongs
    found_at : (xs : List (Stored A)) (p : ℕ) → Canonical (map (numbered num) xs) → p < length xs → ((d : Stored A) → order (numbered num (slice_index_or xs p d)) (range u v) ≡ Equal) → IsPlace num xs u v (Ok p)
    unfolding place_of hop_of
    found_at [] p c h e = absurd (omega arith)
    found_at (x ∷ xs) zero c h e = let a = order-equal (numbered num x) (range u v) (sym (e x)) in (sym (rw a.0), h, λ d. rw a.2)
    found_at (x ∷ xs) (suc p) c h e =
        let ih = found_at xs p c.2 (omega arith) e in
        let a = order-less (numbered num x) (range u v) (sym (before_equal (numbered num x) (numbered num (slice_index_or xs p x)) (c.1 _ (in_at xs p x (omega arith))) (e x))) in
        (rw a.0 (ap suc ih.0), h, λ d. rw a.1 (ih.2 d))

    -- what stands between the lesser and the greater is not held
    parted_at : (xs : List (Stored A)) (p : ℕ) → p ≤ length xs → IsPartitionPoint (λ x. order (numbered num x) (range u v) ≡ Less) (λ x. order (numbered num x) (range u v) ≡ Greater) xs p → IsPlace num xs u v (Err p)
    unfolding place_of hop_of
    parted_at [] p h e = (omega arith, h, refl)
    parted_at (x ∷ xs) zero h e =
        let ih = parted_at xs zero (omega arith) ((λ k d a b. absurd (omega arith)), (λ k d a b. e.1 (suc k) d (omega arith) (omega arith))) in
        let a = order-greater (numbered num x) (range u v) (sym (e.1 0 x (omega arith) (omega arith))) in
        (sym (rw a.0), h, rw a.2 ih.2)
    parted_at (x ∷ xs) (suc p) h e =
        let ih = parted_at xs p (omega arith) ((λ k d a b. e.0 (suc k) d (omega arith) (omega arith)), (λ k d a b. e.1 (suc k) d (omega arith) (omega arith))) in
        let a = order-less (numbered num x) (range u v) (sym (e.0 0 x (omega arith) (omega arith))) in
        (rw a.0 (ap suc ih.0), h, rw a.1 ih.2)

    pub searched : (xs : List (Stored A)) (r : Result ℕ ℕ) → Canonical (map (numbered num) xs) → IsSearchInRange r (length xs)
        → IsBinarySearchResult (λ x. order (numbered num x) (range u v)) xs r → IsPlace num xs u v r
    searched xs (Ok p) c h e = found_at xs p c h e
    searched xs (Err p) c h e = parted_at xs p h (e (rising (range u v) xs c))

    greatest : (o q : Ordering) → ordering_index o ≤ ordering_index q → o ≡ Greater → q ≡ Greater
    greatest o Less h e = absurd (omega (arith, ap ordering_index e))
    greatest o Equal h e = absurd (omega (arith, ap ordering_index e))
    greatest o Greater h e = refl

    -- what stands behind a rule that is after the range is after it
    behind : (xs : List (Stored A)) (i k : ℕ) (d : Stored A) → Canonical (map (numbered num) xs) → i ≤ k → k < length xs
        → order (numbered num (slice_index_or xs i d)) (range u v) ≡ Greater → order (numbered num (slice_index_or xs k d)) (range u v) ≡ Greater
    behind xs i k d c a b = greatest (order (numbered num (slice_index_or xs i d)) (range u v)) (order (numbered num (slice_index_or xs k d)) (range u v)) (rising (range u v) xs c i k d a b)

    not_less : (x : Rule) → earlier x (range u v) ≡ false → order x (range u v) ≡ Less → ⊥
    not_less x e l = grind (arith, nat_tests)

    -- a search of a front part that reaches the range ends where a search of all does
    pub searched_front : (xs : List (Stored A)) (n : ℕ) (r : Result ℕ ℕ) → Canonical (map (numbered num) xs) → Reaches num xs u v n → IsSearchInRange r (length (take n xs))
        → IsBinarySearchResult (λ x. order (numbered num x) (range u v)) (take n xs) r → IsPlace num xs u v r
    searched_front xs n (Ok p) c q h e =
        let l : length (take n xs) ≡ n = length-take-le n xs q.0 in
        searched xs (Ok p) c (omega arith) (λ d. rw (← get_or-take n xs p d (omega arith)) (e d))
    searched_front xs n (Err p) c q h e =
        let l : length (take n xs) ≡ n = length-take-le n xs q.0 in
        let by : Stored A → Ordering = λ x. order (numbered num x) (range u v) in
        let front = e (λ i j d a b. rw (get_or-take n xs i d (omega arith), get_or-take n xs j d (omega arith)) (rising (range u v) xs c i j d a (omega arith))) in
        let less : (k : ℕ) (d : Stored A) → k < p → by (slice_index_or xs k d) ≡ Less = λ k d a. rw (← get_or-take n xs k d (omega arith)) (front.0 k d (omega arith) a) in
        let greater : (k : ℕ) (d : Stored A) → p ≤ k → k < n → by (slice_index_or xs k d) ≡ Greater = λ k d a b. rw (← get_or-take n xs k d b) (front.1 k d a (omega arith)) in
        let last : (d : Stored A) → n < length xs → by (slice_index_or xs (n - 1) d) ≡ Greater = λ d a. elim (cases_lt p n) [
          | inl i ↦ greater (n - 1) d (omega arith) (omega arith)
          | inr i ↦ absurd (not_less (numbered num (slice_index_or xs (n - 1) d)) ((q.1 a).1 d) (less (n - 1) d (omega (arith, (q.1 a).0))))
        ] in
        let after : (k : ℕ) (d : Stored A) → p ≤ k → k < length xs → by (slice_index_or xs k d) ≡ Greater = λ k d a b. elim (cases_lt k n) [
          | inl i ↦ greater k d a i
          | inr i ↦ behind xs (n - 1) k d c (omega arith) b (last d (omega arith))
        ] in
        searched xs (Err p) c (omega arith) (λ w. ((λ k d a b. less k d b), after))

-- a scan from the back: one rule more in front
pub boundary_on : (x : Rule) (R : List Rule) (last d : ℕ) (o p q : Option ℕ) → o ≡ next_boundary last R d → p ≡ nearest last d (suc x.finish) o → q ≡ nearest last d x.start p → q ≡ next_boundary last (x ∷ R) d
unfolding next_boundary
boundary_on x R last d o p q a b c = rw (c, b, a)

pub boundary_none : (last d : ℕ) → None ≡ next_boundary last [] d
unfolding next_boundary
boundary_none last d = refl

-- what a scan from the back has passed: one more, and all
pub pushed : {X : Type 0} (all xs ys : List X) (zs : List X) (x : X) → all ≡ xs ++ zs → xs ≡ push ys x → all ≡ ys ++ (x ∷ zs)
pushed all xs ys zs x a b = a ∙ rw (b, append_assoc ys (x ∷ []) zs)

pub all_passed : {X : Type 0} (all xs zs : List X) → all ≡ xs ++ zs → length xs ≡ 0 → zs ≡ all
all_passed all [] zs a b = sym a
all_passed all (x ∷ xs) zs a b = absurd (omega (arith, b))
