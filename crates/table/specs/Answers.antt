-- What each call of a table answers and leaves.
use Rattle.std.specs.Prelude.{◌≡◌, ℕ, cond, ◌⊎◌, List, [], ◌∷◌, length, take, is_some, is_ok, Some, None, Ok, Err, Option, Result, nat_lt}
use Rattle.rules.specs.declared.refusal.Refusal.{Refusal}
use Rattle.rules.specs.declared.refusal.Refusal.TheVariants.{Backwards, AlreadyMade, DefaultRange, NotHeld, Full, Conflict, Uncovered, Ambiguous}
use Rattle.batch.specs.declared.change.Change.{Change}
use Rattle.batch.specs.Applied.{then, apply_answer, all_rules}
use Rattle.rules.specs.Rules.{Rule, rule, insert, delete, hop_of, is_default}
use Rattle.rules.specs.Search.{least_finish}
use Rattle.rules.specs.Conflicts.{most_specific, resolved_in, MostSpecific, Covered}

-- an answered range with its hop, by numbers
abbrev pub told_rule : {A : Type 0} → (A → ℕ) → A × A × ℕ → Rule
told_rule num t = rule (num t.0) (num t.1) t.2

abbrev pub found : {A : Type 0} → (A → ℕ) → Result (A × A × ℕ) Refusal → Result Rule Refusal
found num (Ok t) = Ok (told_rule num t)
found num (Err e) = Err e

-- only an empty store with a place is made
abbrev pub make_answer : ℕ → List Rule → Result (Unit {0}) Refusal
make_answer capacity [] = cond (nat_lt 0 capacity) (Ok tt) (Err Full)
make_answer capacity (x ∷ xs) = Err AlreadyMade

abbrev pub make_rules : ℕ → ℕ → List Rule → ℕ → List Rule
make_rules last capacity R h = cond (is_ok (make_answer capacity R)) (rule 0 last h ∷ []) R

-- the most specific rule, or why there is none: no rule covers the address, or some do
abbrev pub told_by : Option Rule → Option Rule → Result Rule Refusal
told_by (Some r) o = Ok r
told_by None None = Err Uncovered
told_by None (Some s) = Err Ambiguous

abbrev pub lookup_answer : List Rule → ℕ → Result Rule Refusal
lookup_answer R d = told_by (most_specific R d) (least_finish R d)

-- what a lookup's answer says in the words of rules and addresses
abbrev pub Right : List Rule → ℕ → Result Rule Refusal → Type 0
Right R d (Ok r) = MostSpecific R d r
Right R d (Err e) = ((e ≡ Uncovered) × (Covered R d → ⊥)) ⊎ ((e ≡ Ambiguous) × Covered R d × ((r : Rule) → MostSpecific R d r → ⊥))

-- a held range has its hop replaced; another wants a place, and a most specific rule at each of its addresses
abbrev pub add_answer : ℕ → List Rule → ℕ → ℕ → ℕ → Result (Unit {0}) Refusal
add_answer capacity R u v h =
    cond (nat_lt v u) (Err Backwards)
    (cond (is_some (hop_of R u v)) (Ok tt)
    (cond (nat_lt (length R) capacity)
    (cond (resolved_in (insert (rule u v h) R) u v) (Ok tt) (Err Conflict))
    (Err Full)))

abbrev pub add_rules : ℕ → List Rule → ℕ → ℕ → ℕ → List Rule
add_rules capacity R u v h = cond (is_ok (add_answer capacity R u v h)) (insert (rule u v h) R) R

-- a held range other than the default may go if each of its addresses that is still covered then has a most specific rule
abbrev pub remove_answer : ℕ → List Rule → ℕ → ℕ → Result (Unit {0}) Refusal
remove_answer last R u v =
    cond (nat_lt v u) (Err Backwards)
    (cond (is_default last u v) (Err DefaultRange)
    (cond (is_some (hop_of R u v))
    (cond (resolved_in (delete u v R) u v) (Ok tt) (Err Conflict))
    (Err NotHeld)))

abbrev pub remove_rules : ℕ → List Rule → ℕ → ℕ → List Rule
remove_rules last R u v = cond (is_ok (remove_answer last R u v)) (delete u v R) R

-- the first n changes in order, each against the set that those before it leave; then every address has a most specific rule or is uncovered
abbrev pub commit_answer : ℕ → ℕ → List Rule → ℕ → List (Change ℕ) → Result ℕ Refusal
commit_answer last capacity R n cs = then (apply_answer last capacity R n cs) (cond (resolved_in (all_rules R (take n cs)) 0 last) (Ok n) (Err Conflict))

abbrev pub commit_rules : ℕ → ℕ → List Rule → ℕ → List (Change ℕ) → List Rule
commit_rules last capacity R n cs = cond (is_ok (commit_answer last capacity R n cs)) (all_rules R (take n cs)) R
