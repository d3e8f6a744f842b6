-- Worked cases over ports, computed by the definitions that the calls promise.
use Rattle.std.specs.Prelude.{◌≡◌, ℕ, Bool, true, false, ◌&&◌, List, [], ◌∷◌, Ok, Err, Result, ◌==◌}
use Rattle.rules.specs.declared.refusal.Refusal.{Refusal}
use Rattle.rules.specs.Refusals.{number}
use Rattle.rules.specs.Rules.{Rule, rule, same}
use Rattle.table.specs.Answers.{lookup_answer, add_answer, add_rules, remove_answer, remove_rules}

pub data Question : Type 0 where
  Lookup : ℕ → Question
  Add : ℕ → ℕ → ℕ → Question
  Remove : ℕ → ℕ → Question

pub data Told : Type 0 where
  Finds : Rule → Told
  Leaves : List Rule → Told
  Refuses : ℕ → Told

pub record Case : Type 0 where
  pub held : List Rule
  pub asked : Question
  pub told : Told

abbrev pub equal_rule : Rule → Rule → Bool
equal_rule r s = same r s && r.hop == s.hop

abbrev pub equal_rules : List Rule → List Rule → Bool
equal_rules [] [] = true
equal_rules [] (y ∷ ys) = false
equal_rules (x ∷ xs) [] = false
equal_rules (x ∷ xs) (y ∷ ys) = equal_rule x y && equal_rules xs ys

abbrev pub equal_told : Told → Told → Bool
equal_told (Finds r) (Finds s) = equal_rule r s
equal_told (Finds r) (Leaves S) = false
equal_told (Finds r) (Refuses n) = false
equal_told (Leaves R) (Finds s) = false
equal_told (Leaves R) (Leaves S) = equal_rules R S
equal_told (Leaves R) (Refuses n) = false
equal_told (Refuses m) (Finds s) = false
equal_told (Refuses m) (Leaves S) = false
equal_told (Refuses m) (Refuses n) = m == n

abbrev pub finding : Result Rule Refusal → Told
finding (Ok r) = Finds r
finding (Err e) = Refuses (number e)

abbrev pub leaving : Result (Unit {0}) Refusal → List Rule → Told
leaving (Ok x) R = Leaves R
leaving (Err e) R = Refuses (number e)

-- what a question is answered, in a store with room for 8 rules
abbrev pub answered : List Rule → Question → Told
answered R (Lookup d) = finding (lookup_answer R d)
answered R (Add u v h) = leaving (add_answer 8 R u v h) (add_rules 8 R u v h)
answered R (Remove u v) = leaving (remove_answer 65535 R u v) (remove_rules 65535 R u v)

abbrev pub case : List Rule → Question → Told → Case
case R q t = record { held = R; asked = q; told = t }

abbrev pub all_hold : List Case → Bool
all_hold [] = true
all_hold (c ∷ cs) = equal_told (answered c.held c.asked) c.told && all_hold cs

-- the default range
abbrev pub Z : Rule
Z = rule 0 65535 1

abbrev pub worked : List Case
worked =
    case (Z ∷ []) (Lookup 0) (Finds Z)
    ∷ (case (Z ∷ []) (Lookup 65535) (Finds Z)
    ∷ (case (rule 10 30 2 ∷ (Z ∷ [])) (Add 20 40 9) (Refuses 8)
    ∷ (case (rule 10 30 2 ∷ (Z ∷ [])) (Add 30 40 9) (Refuses 8)
    ∷ (case (rule 10 30 2 ∷ (Z ∷ [])) (Add 31 40 9) (Leaves (rule 10 30 2 ∷ (rule 31 40 9 ∷ (Z ∷ []))))
    ∷ (case (rule 10 30 2 ∷ (Z ∷ [])) (Add 10 40 9) (Leaves (rule 10 30 2 ∷ (rule 10 40 9 ∷ (Z ∷ []))))
    ∷ (case (rule 10 30 2 ∷ (Z ∷ [])) (Add 10 30 9) (Leaves (rule 10 30 9 ∷ (Z ∷ [])))
    ∷ (case (rule 20 24 3 ∷ (rule 25 30 4 ∷ (rule 10 30 2 ∷ (Z ∷ [])))) (Add 20 40 9) (Leaves (rule 20 24 3 ∷ (rule 25 30 4 ∷ (rule 10 30 2 ∷ (rule 20 40 9 ∷ (Z ∷ []))))))
    ∷ (case (rule 20 24 3 ∷ (rule 26 30 4 ∷ (rule 10 30 2 ∷ (Z ∷ [])))) (Add 20 40 9) (Refuses 8)
    ∷ (case (rule 20 30 3 ∷ (rule 10 30 2 ∷ (rule 20 40 4 ∷ (Z ∷ [])))) (Remove 20 30) (Refuses 8)
    ∷ (case (rule 20 30 3 ∷ (rule 10 30 2 ∷ (rule 20 40 4 ∷ (Z ∷ [])))) (Remove 10 30) (Leaves (rule 20 30 3 ∷ (rule 20 40 4 ∷ (Z ∷ []))))
    ∷ []))))))))))

abbrev pub WorkedCases : Type 0
WorkedCases = all_hold worked ≡ true
