-- What a batch of one change answers and leaves.
use Rattle.std.specs.Prelude.{ℕ, cond, List, [], ◌∷◌, is_ok, Result}
use Rattle.rules.specs.declared.refusal.Refusal.{Refusal}
use Rattle.rules.specs.Rules.{Rule}
use Rattle.batch.specs.declared.change.Change.{Change}
use Rattle.batch.specs.Staging.{stage_answer}
use Rattle.batch.specs.Applied.{then}
use Rattle.table.specs.Answers.{commit_answer, commit_rules}

-- refused as staging into a list of `long` places is, and else as the commit of this one change
abbrev pub add_one_answer : ℕ → ℕ → List Rule → ℕ → Change ℕ → Result ℕ Refusal
add_one_answer last capacity R long c = then (stage_answer last 0 long c) (commit_answer last capacity R 1 (c ∷ []))

abbrev pub add_one_rules : ℕ → ℕ → List Rule → ℕ → Change ℕ → List Rule
add_one_rules last capacity R long c = cond (is_ok (stage_answer last 0 long c)) (commit_rules last capacity R 1 (c ∷ [])) R
