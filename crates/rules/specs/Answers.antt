-- What each call of a store answers and leaves.
use Rattle.std.specs.Prelude.{ℕ, suc, ◌≤◌, min, cond, List, [], ◌∷◌, length, is_some, is_ok, Some, None, Ok, Err, Option, Result, nat_lt}
use Rattle.rules.specs.declared.refusal.Refusal.{Refusal}
use Rattle.rules.specs.declared.refusal.Refusal.TheVariants.{Backwards, NotHeld, Full}
use Rattle.rules.specs.declared.rule.Rule.{Rule as Stored}
use Rattle.rules.specs.Rules.{Rule, rule, range, insert, delete, hop_of, earlier, Canonical, Bounded}

-- a stored rule by numbers
abbrev pub numbered : {A : Type 0} → (A → ℕ) → Stored A → Rule
numbered num x = rule (num x.start) (num x.finish) x.hop

-- a found range with its hop, by numbers
abbrev pub told : {A : Type 0} → (A → ℕ) → Option (A × A × ℕ) → Option Rule
told num None = None
told num (Some t) = Some (rule (num t.0) (num t.1) t.2)

-- a length of rows, but 65,535 at most
abbrev pub capped : ℕ → ℕ
capped n = min n 65535

-- what holds of every store
pub record Sound (capacity last : ℕ) (R : List Rule) : Type 0 where
  pub within : length R ≤ capacity
  pub capped : capacity ≤ 65535
  pub canonical : Canonical R
  pub bounded : Bounded last R

-- how many rules stand before [u, v]
unfoldable pub place_of : List Rule → ℕ → ℕ → ℕ
place_of [] u v = 0
place_of (x ∷ xs) u v = cond (earlier x (range u v)) (suc (place_of xs u v)) 0

-- a held range is replaced, another wants a place
abbrev pub put_answer : ℕ → List Rule → ℕ → ℕ → Result (Unit {0}) Refusal
put_answer capacity R u v = cond (nat_lt v u) (Err Backwards) (cond (is_some (hop_of R u v)) (Ok tt) (cond (nat_lt (length R) capacity) (Ok tt) (Err Full)))

abbrev pub put_rules : ℕ → List Rule → ℕ → ℕ → ℕ → List Rule
put_rules capacity R u v h = cond (is_ok (put_answer capacity R u v)) (insert (rule u v h) R) R

abbrev pub take_answer : List Rule → ℕ → ℕ → Result (Unit {0}) Refusal
take_answer R u v = cond (nat_lt v u) (Err Backwards) (cond (is_some (hop_of R u v)) (Ok tt) (Err NotHeld))

abbrev pub take_rules : List Rule → ℕ → ℕ → List Rule
take_rules R u v = cond (is_ok (take_answer R u v)) (delete u v R) R
