-- The best rule of those that pass a test, by an order.
use Rattle.std.specs.Prelude.{◌≡◌, ℕ, Bool, true, false, cond, ◌&&◌, ◌||◌, List, [], ◌∷◌, Some, None, Option, ◌==◌, nat_lt}
use Rattle.rules.specs.Rules.{Rule, In, Inside, earlier, same, covers}

-- what a search finds: a rule of R with P that none with P beats, or none if none has P
abbrev pub Best : (Rule → Rule → Bool) → (Rule → Type 0) → List Rule → Option Rule → Type 0
Best lt P R None = (s : Rule) → In s R → P s → ⊥
Best lt P R (Some r) = In r R × P r × ((s : Rule) → In s R → P s → lt s r ≡ false)

-- the better of two that may be there
abbrev pub better : (Rule → Rule → Bool) → Option Rule → Option Rule → Option Rule
better lt None o = o
better lt (Some x) None = Some x
better lt (Some x) (Some y) = cond (lt y x) (Some y) (Some x)

unfoldable pub best : (Rule → Rule → Bool) → (Rule → Bool) → List Rule → Option Rule
best lt p [] = None
best lt p (x ∷ xs) = better lt (cond (p x) (Some x) None) (best lt p xs)

-- greater start, among equals lesser finish
abbrev pub closer : Rule → Rule → Bool
closer r s = nat_lt s.start r.start || (r.start == s.start && nat_lt r.finish s.finish)

-- of the rules that cover d, the one of least finish, among equals of greatest start
abbrev pub least_finish : List Rule → ℕ → Option Rule
least_finish R d = best earlier (λ r. covers r d) R

-- of the rules that cover d, the one of greatest start, among equals of least finish
abbrev pub greatest_start : List Rule → ℕ → Option Rule
greatest_start R d = best closer (λ r. covers r d) R

-- of the rules with P, one that lies inside every other
pub record Least (P : Rule → Type 0) (R : List Rule) (r : Rule) : Type 0 where
  pub held : In r R
  pub fits : P r
  pub least : (s : Rule) → In s R → P s → Inside r s

-- whether both searches found one range, or the first found none
abbrev pub same_found : Option Rule → Option Rule → Bool
same_found None q = true
same_found (Some f) None = false
same_found (Some f) (Some s) = same f s

-- the rule that both searches found
abbrev pub agree : Option Rule → Option Rule → Option Rule
agree None q = None
agree (Some f) None = None
agree (Some f) (Some s) = cond (same f s) (Some f) None
