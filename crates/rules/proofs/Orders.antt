-- What a comparison of addresses tells of their numbers.
use Rattle.std.proofs.Common.{◌≡◌, ℕ, ltb, leb, Some, Option, Ordering, ap, ◌∙◌, arith}
use Rattle.std.proofs.lemmas.Bool.Decides.{nat_tests}
use Rattle.std.specs.Ordering.{nat_cmp, is_lt, is_le, is_some_and, partial_lt, partial_le}

lt_cmp : (x y : ℕ) → is_lt (nat_cmp x y) ≡ ltb x y
lt_cmp x y = grind (arith, nat_tests)

le_cmp : (x y : ℕ) → is_le (nat_cmp x y) ≡ leb x y
le_cmp x y = grind (arith, nat_tests)

module _ {A : Type 0} (num : A → ℕ) {pc : A → A → Option Ordering} {cmp : A → A → Ordering} (by : (x y : A) → cmp x y ≡ nat_cmp (num x) (num y)) (same : (x y : A) → pc x y ≡ Some (cmp x y)) (x y : A) where
  pub lt_num : partial_lt pc x y ≡ ltb (num x) (num y)
  lt_num = ap (is_some_and is_lt) (same x y ∙ ap Some (by x y)) ∙ lt_cmp (num x) (num y)

  pub le_num : partial_le pc x y ≡ leb (num x) (num y)
  le_num = ap (is_some_and is_le) (same x y ∙ ap Some (by x y)) ∙ le_cmp (num x) (num y)
