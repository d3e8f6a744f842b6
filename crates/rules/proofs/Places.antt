-- Where a rule stands in the order, and what putting and striking do at its place.
use Rattle.std.proofs.Common.{◌≡◌, ℕ, ◌+◌, ◌<◌, ◌≤◌, Bool, true, false, cond, ◌&&◌, ltb, leb, List, [], ◌∷◌, length, set, is_some, Some, None, Decides, Option, sym, refl, inl, inr, arith}
use Rattle.std.specs.List.{insert as inserted, remove}
use Rattle.std.proofs.lemmas.Bool.Decides.{nat_tests, Decides-and, Decides-like}
use Rattle.rules.specs.Rules.{Rule, rule, range, In, Earlier, Canonical, earlier, same, order, insert, delete, hop_of, every, ordered}
use Rattle.std.specs.declared.cmp.Ordering.TheVariants.{Less, Equal, Greater}
use Rattle.rules.specs.Search.{best, better}
use Rattle.rules.specs.Answers.{place_of, put_rules, take_rules}
use Rattle.std.proofs.lemmas.List.Edits.{length-remove}
use Rattle.rules.proofs.Members.{hop-delete, delete_absent, insert_split}

every-earlier : (x : Rule) (xs : List Rule) → Decides (every (earlier x) xs) ((y : Rule) → In y xs → Earlier x y)
unfolding every
every-earlier x [] = ((λ e y i. elim i [ ]), λ f. refl)
every-earlier x (z ∷ zs) =
    Decides-like (earlier x z && every (earlier x) zs) (λ p y i. elim i [ inl q ↦ rw q p.0 | inr k ↦ p.1 y k ]) (λ f. (f z (inl refl), λ y k. f y (inr k)))
    (Decides-and (earlier x z) (every (earlier x) zs) ((λ e. grind (arith, nat_tests)), λ e. grind (arith, nat_tests)) (every-earlier x zs))

pub ordered_decides : (R : List Rule) → Decides (ordered R) (Canonical R)
unfolding ordered
ordered_decides [] = ((λ e. tt), λ c. refl)
ordered_decides (x ∷ xs) =
    let b = every (earlier x) xs in
    let e : Decides (leb x.start x.finish) (x.start ≤ x.finish) = ((λ t. grind (arith, nat_tests)), λ h. grind (arith, nat_tests)) in
    Decides-like (leb x.start x.finish && (b && ordered xs)) (λ c. (c.0, c.1.0, c.1.1)) (λ c. (c.0, (c.1, c.2)))
    (Decides-and (leb x.start x.finish) (b && ordered xs) e (Decides-and b (ordered xs) (every-earlier x xs) (ordered_decides xs)))

-- what each outcome of the order says
module _ (r s : Rule) where
  pub order-less : Less ≡ order r s → (earlier r s ≡ true) × (same s r ≡ false)
  order-less e = (grind (arith, nat_tests), grind (arith, nat_tests))

  pub order-equal : Equal ≡ order r s → (earlier r s ≡ false) × (earlier s r ≡ false) × (same s r ≡ true)
  order-equal e = (grind (arith, nat_tests), grind (arith, nat_tests), grind (arith, nat_tests))

  pub order-greater : Greater ≡ order r s → (earlier r s ≡ false) × (earlier s r ≡ true) × (same s r ≡ false)
  order-greater e = (grind (arith, nat_tests), grind (arith, nat_tests), grind (arith, nat_tests))

-- not held: it goes in at its place
pub place-insert : (r : Rule) (R : List Rule) → is_some (hop_of R r.start r.finish) ≡ false → insert r R ≡ inserted R (place_of R r.start r.finish) r
unfolding insert place_of hop_of
place-insert r [] n = refl
place-insert r (x ∷ xs) n = let ih = place-insert r xs in grind (arith, nat_tests)

-- a range held behind x does not stand before x
held-behind : (x : Rule) (xs : List Rule) (u v : ℕ) → ((y : Rule) → In y xs → Earlier x y) → is_some (hop_of xs u v) ≡ true → earlier x (range u v) ≡ true
unfolding hop_of
held-behind x [] u v f e = cc
held-behind x (y ∷ ys) u v f e = let a = f y (inl refl) in let ih = held-behind x ys u v (λ z i. f z (inr i)) in grind (arith, nat_tests)

-- held: it is replaced at its place
pub place_set : (u v h : ℕ) (R : List Rule) → Canonical R → is_some (hop_of R u v) ≡ true → (place_of R u v < length R) × (insert (rule u v h) R ≡ set R (place_of R u v) (rule u v h))
unfolding insert place_of hop_of
place_set u v h [] c e = cc
place_set u v h (x ∷ xs) c e = let ih = place_set u v h xs c.2 in let p = held-behind x xs u v c.1 in grind (arith, nat_tests)

-- held: it is deleted at its place
pub place-delete : (u v : ℕ) (R : List Rule) → Canonical R → is_some (hop_of R u v) ≡ true → delete u v R ≡ remove R (place_of R u v)
unfolding delete place_of hop_of
place-delete u v [] c e = cc
place-delete u v (x ∷ xs) c e =
    let ih = place-delete u v xs c.2 in
    let p = held-behind x xs u v c.1 in
    let n : same (range u v) x ≡ true → delete u v xs ≡ xs = λ s. delete_absent u v xs (λ y i k. let w = c.1 y i in grind (arith, nat_tests)) in
    grind (arith, nat_tests)

-- not held: nothing is deleted
pub delete_none : (u v : ℕ) (R : List Rule) → is_some (hop_of R u v) ≡ false → delete u v R ≡ R
unfolding delete hop_of
delete_none u v [] e = refl
delete_none u v (x ∷ xs) e = let ih = delete_none u v xs in grind (arith, nat_tests)

-- in canonical order the first that passes has the least finish
unfoldable pub first : (Rule → Bool) → List Rule → Option Rule
first p [] = None
first p (x ∷ xs) = cond (p x) (Some x) (first p xs)

best_in : (lt : Rule → Rule → Bool) (p : Rule → Bool) (R : List Rule) → (r : Rule) → best lt p R ≡ Some r → In r R
unfolding best
best_in lt p [] r e = cc
best_in lt p (x ∷ xs) r e = go (best lt p xs) (best_in lt p xs r) e
  where
    go : (o : Option Rule) → (o ≡ Some r → In r xs) → better lt (cond (p x) (Some x) None) o ≡ Some r → In r (x ∷ xs)
    go None ih q = grind arith
    go (Some y) ih q = grind arith

pub first_is_best : (p : Rule → Bool) (R : List Rule) → Canonical R → best earlier p R ≡ first p R
unfolding best first
first_is_best p [] c = refl
first_is_best p (x ∷ xs) c = go (best earlier p xs) (best_in earlier p xs) (first_is_best p xs c.2)
  where
    go : (o : Option Rule) → ((r : Rule) → o ≡ Some r → In r xs) → o ≡ first p xs → better earlier (cond (p x) (Some x) None) o ≡ cond (p x) (Some x) (first p xs)
    go None i e = grind arith
    go (Some y) i e = let a = c.1 y (i y refl) in grind (arith, nat_tests)

-- what was deleted goes in again
pub delete-back : (u v h : ℕ) (R : List Rule) → Canonical R → hop_of R u v ≡ Some h → insert (rule u v h) (delete u v R) ≡ R
unfolding insert delete hop_of
delete-back u v h [] c e = cc
delete-back u v h (x ∷ xs) c e =
    let ih = delete-back u v h xs c.2 in
    let p = held-behind x xs u v c.1 in
    let n : same (range u v) x ≡ true → delete u v xs ≡ xs = λ s. delete_absent u v xs (λ y i k. let w = c.1 y i in grind (arith, nat_tests)) in
    let k : same (range u v) x ≡ true → insert (rule u v h) xs ≡ rule u v h ∷ xs = λ s. insert_split (rule u v h) [] xs (λ y i. elim i [ ]) (λ y i. let w = c.1 y i in grind (arith, nat_tests)) in
    grind (arith, nat_tests)

pub put_back : (room : ℕ) (u v h : ℕ) (R : List Rule) → Canonical R → length R ≤ room → false ≡ ltb v u → Some h ≡ hop_of R u v → put_rules room (delete u v R) u v h ≡ R
put_back room u v h R c w t e =
    let k : is_some (hop_of R u v) ≡ true = cc in
    let p = (place_set u v 0 R c k).0 in
    let l : length (delete u v R) + 1 ≡ length R = rw (place-delete u v R c k) (length-remove R (place_of R u v) p) in
    let n = hop-delete u v R u v in
    let d = delete-back u v h R c (sym e) in
    grind (arith, nat_tests)

-- a held range is taken
pub took : (R : List Rule) (u v h : ℕ) → ltb v u ≡ false → hop_of R u v ≡ Some h → take_rules R u v ≡ delete u v R
took R u v h t e = grind arith
