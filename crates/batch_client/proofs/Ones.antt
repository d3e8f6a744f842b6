-- A batch of one change in a list with other contents behind it.
use Rattle.std.proofs.Common.{◌≡◌, ℕ, false, ltb, List, [], ◌∷◌, length, Ok, arith}
use Rattle.std.proofs.lemmas.Bool.Decides.{nat_tests}
use Rattle.rules.specs.Rules.{Rule}
use Rattle.batch.specs.declared.change.Change.{Change}
use Rattle.batch.specs.declared.staging.Staged.{Staged}
use Rattle.batch.specs.Changes.{numbered_change, numbered_changes}
use Rattle.batch.specs.Staging.{stage_answer, stage_count, stage_list}
use Rattle.table.specs.Answers.{commit_answer, commit_rules}
use Rattle.batch_client.specs.Clients.{add_one_answer, add_one_rules}

no_place : (last : ℕ) (c : Change ℕ) → Ok tt ≡ stage_answer last 0 0 c → ⊥
no_place last c a = grind (arith, nat_tests)

one_enough : (c : Change ℕ) (cs : List (Change ℕ)) → ltb (length (c ∷ cs)) 1 ≡ false
one_enough c cs = grind (arith, nat_tests)

-- what a commit answers and leaves after one change was staged in the list xs
module _ (last capacity : ℕ) (R : List Rule) {A : Type 0} (num : A → ℕ) (ch : Change A) where
  pub one_answer : (xs : List (Staged A)) → Ok tt ≡ stage_answer last 0 (length xs) (numbered_change num ch)
      → commit_answer last capacity R (stage_count last 0 (length xs) (numbered_change num ch)) (numbered_changes num (stage_list last num 0 xs ch)) ≡ add_one_answer last capacity R (length xs) (numbered_change num ch)
  one_answer [] a = absurd (no_place last (numbered_change num ch) a)
  one_answer (x ∷ xs) a = rw (← a, one_enough (numbered_change num ch) (numbered_changes num xs))

  pub one_left : (xs : List (Staged A)) → Ok tt ≡ stage_answer last 0 (length xs) (numbered_change num ch)
      → commit_rules last capacity R (stage_count last 0 (length xs) (numbered_change num ch)) (numbered_changes num (stage_list last num 0 xs ch)) ≡ add_one_rules last capacity R (length xs) (numbered_change num ch)
  one_left [] a = absurd (no_place last (numbered_change num ch) a)
  one_left (x ∷ xs) a = rw (← a, one_enough (numbered_change num ch) (numbered_changes num xs))
