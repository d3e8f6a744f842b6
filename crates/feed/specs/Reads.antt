-- What a reader tells of what it reads, and how far it goes.
use Rattle.std.specs.Prelude.{ℕ, ◌-◌, List, length, Some, None, Ok, Err, Result}
use Rattle.rules.specs.declared.refusal.Refusal.{Refusal}
use Rattle.rules.specs.declared.refusal.Refusal.TheVariants.{FeedEnds, NotAChange}
use Rattle.batch.specs.declared.change.Change.{Change as ChangeOf}
use Rattle.feed.specs.declared.record.Record.{Record}
use Rattle.feed.specs.declared.record.Record.TheVariants.{Change, Lookup, Batch}
use Rattle.feed.specs.Records.{record_told}
use Rattle.batch.specs.Changes.{numbered_change}
use Rattle.feed.specs.Decode.{Read}

-- the bytes that a read leaves: those behind the record, and all of them if there is no record
abbrev pub left : {X : Type 0} → List ℕ → Read (X × List ℕ) → List ℕ
left bs (Ok None) = bs
left bs (Ok (Some p)) = p.1
left bs (Err e) = bs

-- how many bytes a read takes
abbrev pub taken : {X : Type 0} → List ℕ → Read (X × List ℕ) → ℕ
taken bs read = length bs - length (left bs read)

-- what was read at a place
abbrev pub placed : {X : Type 0} → ℕ → Read (X × List ℕ) → Read (ℕ × X)
placed place (Ok None) = Ok None
placed place (Ok (Some p)) = Ok (Some (place, p.0))
placed place (Err e) = Err e

-- what code tells, by numbers
abbrev pub record_placed : {A : Type 0} → (A → ℕ) → Read (ℕ × Record A) → Read (ℕ × Record ℕ)
record_placed num (Ok None) = Ok None
record_placed num (Ok (Some p)) = Ok (Some (p.0, record_told num p.1))
record_placed num (Err e) = Err e

-- inside a batch a record has to come, and it has to be a change
abbrev pub as_change : Read (Record ℕ × List ℕ) → Read (ChangeOf ℕ × List ℕ)
as_change (Ok None) = Err FeedEnds
as_change (Ok (Some (Change c, rest))) = Ok (Some (c, rest))
as_change (Ok (Some (Lookup a, rest))) = Err NotAChange
as_change (Ok (Some (Batch n, rest))) = Err NotAChange
as_change (Err e) = Err e

abbrev pub change_placed : {A : Type 0} → (A → ℕ) → Result (ℕ × ChangeOf A) Refusal → Read (ℕ × ChangeOf ℕ)
change_placed num (Ok p) = Ok (Some (p.0, numbered_change num p.1))
change_placed num (Err e) = Err e
