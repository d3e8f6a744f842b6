-- Changes by numbers.
use Rattle.std.specs.Prelude.{ℕ, Bool, false, List, map, nat_lt}
use Rattle.rules.specs.Rules.{is_default}
use Rattle.batch.specs.declared.change.Change.{Change}
use Rattle.batch.specs.declared.change.Change.TheVariants.{Add, Remove}
use Rattle.batch.specs.declared.staging.Staged.{Staged}

abbrev pub numbered_change : {A : Type 0} → (A → ℕ) → Change A → Change ℕ
numbered_change num (Add u v h) = Add (num u) (num v) h
numbered_change num (Remove u v) = Remove (num u) (num v)

abbrev pub start_of : {A : Type 0} → Change A → A
start_of (Add u v h) = u
start_of (Remove u v) = u

abbrev pub finish_of : {A : Type 0} → Change A → A
finish_of (Add u v h) = v
finish_of (Remove u v) = v

abbrev pub backwards : Change ℕ → Bool
backwards (Add u v h) = nat_lt v u
backwards (Remove u v) = nat_lt v u

abbrev pub removes_default : ℕ → Change ℕ → Bool
removes_default last (Add u v h) = false
removes_default last (Remove u v) = is_default last u v

-- the changes of a list, without the notes
abbrev pub changes : {A : Type 0} → List (Staged A) → List (Change A)
changes xs = map (λ x. x.change) xs

abbrev pub numbered_changes : {A : Type 0} → (A → ℕ) → List (Staged A) → List (Change ℕ)
numbered_changes num xs = map (numbered_change num) (changes xs)
