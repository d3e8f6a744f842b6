-- What staging answers and leaves.
use Rattle.std.specs.Prelude.{ℕ, ◌+◌, Bool, cond, ◌&&◌, List, length, is_ok, None, Ok, Err, Result, nat_lt, slice_set}
use Rattle.rules.specs.declared.refusal.Refusal.{Refusal}
use Rattle.rules.specs.declared.refusal.Refusal.TheVariants.{Backwards, DefaultRange, BatchFull}
use Rattle.batch.specs.declared.change.Change.{Change}
use Rattle.batch.specs.declared.staging.Staged.{Staged}
use Rattle.batch.specs.declared.staging.Batch.{Batch}
use Rattle.batch.specs.Changes.{numbered_change, backwards, removes_default}

abbrev pub count_of : Batch → ℕ
count_of b = b.count

abbrev pub is_ended : Batch → Bool
is_ended b = b.ended

-- a batch of n changes and a list of `long` places take one more change
abbrev pub stage_answer : ℕ → ℕ → ℕ → Change ℕ → Result (Unit {0}) Refusal
stage_answer last n long c =
    cond (backwards c) (Err Backwards)
    (cond (removes_default last c) (Err DefaultRange)
    (cond (nat_lt n 64 && nat_lt n long) (Ok tt) (Err BatchFull)))

abbrev pub stage_count : ℕ → ℕ → ℕ → Change ℕ → ℕ
stage_count last n long c = cond (is_ok (stage_answer last n long c)) (n + 1) n

abbrev pub fresh : {A : Type 0} → Change A → Staged A
fresh c = record { change = c; note = None }

-- the next place is written, and no other
abbrev pub stage_list : {A : Type 0} → ℕ → (A → ℕ) → ℕ → List (Staged A) → Change A → List (Staged A)
stage_list last num n xs c = cond (is_ok (stage_answer last n (length xs) (numbered_change num c))) (slice_set xs n (fresh c)) xs
