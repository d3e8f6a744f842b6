-- What a list of changes answers and leaves, and what takes it back.
use Rattle.std.specs.Prelude.{◌≡◌, ℕ, cond, List, [], ◌∷◌, length, take, is_some, is_ok, Some, None, Ok, Err, Option, Result, nat_lt}
use Rattle.rules.specs.declared.refusal.Refusal.{Refusal}
use Rattle.rules.specs.declared.refusal.Refusal.TheVariants.{ShortList, Backwards, DefaultRange, NotHeld}
use Rattle.rules.specs.Rules.{Rule, rule, insert, delete, hop_of, is_default}
use Rattle.rules.specs.Answers.{put_answer, put_rules, take_rules}
use Rattle.batch.specs.declared.change.Change.{Change}
use Rattle.batch.specs.declared.change.Change.TheVariants.{Add, Remove}
use Rattle.batch.specs.declared.staging.Staged.{Staged}
use Rattle.batch.specs.Changes.{start_of, finish_of}

-- one change against a set: an add is a put, a remove wants a held range other than the default
abbrev pub change_answer : ℕ → ℕ → List Rule → Change ℕ → Result (Unit {0}) Refusal
change_answer last capacity R (Add u v h) = put_answer capacity R u v
change_answer last capacity R (Remove u v) =
    cond (nat_lt v u) (Err Backwards) (cond (is_default last u v) (Err DefaultRange) (cond (is_some (hop_of R u v)) (Ok tt) (Err NotHeld)))

-- what an accepted change leaves
abbrev pub change_rules : List Rule → Change ℕ → List Rule
change_rules R (Add u v h) = insert (rule u v h) R
change_rules R (Remove u v) = delete u v R

abbrev pub change_left : ℕ → ℕ → List Rule → Change ℕ → List Rule
change_left last capacity R c = cond (is_ok (change_answer last capacity R c)) (change_rules R c) R

-- the second answer, if the first is no refusal
abbrev pub then : {X Y : Type 0} → Result X Refusal → Result Y Refusal → Result Y Refusal
then (Ok x) r = r
then (Err e) r = Err e

-- the changes in order, each against the set that those before it leave
unfoldable pub all_answer : ℕ → ℕ → List Rule → List (Change ℕ) → Result (Unit {0}) Refusal
all_answer last capacity R [] = Ok tt
all_answer last capacity R (c ∷ cs) = then (change_answer last capacity R c) (all_answer last capacity (change_rules R c) cs)

unfoldable pub all_rules : List Rule → List (Change ℕ) → List Rule
all_rules R [] = R
all_rules R (c ∷ cs) = all_rules (change_rules R c) cs

abbrev pub all_left : ℕ → ℕ → List Rule → List (Change ℕ) → List Rule
all_left last capacity R cs = cond (is_ok (all_answer last capacity R cs)) (all_rules R cs) R

-- the first n changes, if there are so many
abbrev pub apply_answer : ℕ → ℕ → List Rule → ℕ → List (Change ℕ) → Result ℕ Refusal
apply_answer last capacity R n cs = cond (nat_lt (length cs) n) (Err ShortList) (then (all_answer last capacity R (take n cs)) (Ok n))

abbrev pub apply_rules : ℕ → ℕ → List Rule → ℕ → List (Change ℕ) → List Rule
apply_rules last capacity R n cs = cond (is_ok (apply_answer last capacity R n cs)) (all_rules R (take n cs)) R

-- an answer without its note
abbrev pub bare : {X : Type 0} → Result X Refusal → Result (Unit {0}) Refusal
bare (Ok x) = Ok tt
bare (Err e) = Err e

-- a change taken back by its note: the hop that the range had, or none
abbrev pub undone : ℕ → List Rule → ℕ → ℕ → Option ℕ → List Rule
undone capacity R u v None = take_rules R u v
undone capacity R u v (Some h) = put_rules capacity R u v h

-- a change that answered r turned R into P, and its note takes it back; a refusal left R
abbrev pub Back : ℕ → List Rule → List Rule → ℕ → ℕ → Result (Option ℕ) Refusal → Type 0
Back capacity R P u v (Ok note) = undone capacity P u v note ≡ R
Back capacity R P u v (Err e) = P ≡ R

-- the changes taken back, the last first
unfoldable pub unwind : {A : Type 0} → (A → ℕ) → ℕ → List Rule → List (Staged A) → List Rule
unwind num capacity R [] = R
unwind num capacity R (x ∷ xs) = undone capacity (unwind num capacity R xs) (num (start_of x.change)) (num (finish_of x.change)) x.note
