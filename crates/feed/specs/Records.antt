-- Records by numbers, and their bytes.
use Rattle.std.specs.Prelude.{ℕ, ◌^◌, ◌<◌, ◌≤◌, List, ◌∷◌, ◌++◌}
use Rattle.batch.specs.declared.change.Change.TheVariants.{Add, Remove}
use Rattle.batch.specs.Changes.{numbered_change}
use Rattle.feed.specs.declared.record.Record.{Record}
use Rattle.feed.specs.declared.record.Record.TheVariants.{Change, Lookup, Batch}
use Rattle.byte_form.specs.Bytes.{bytes_of}

-- over the addresses' numbers
abbrev pub record_told : {A : Type 0} → (A → ℕ) → Record A → Record ℕ
record_told num (Change c) = Change (numbered_change num c)
record_told num (Lookup a) = Lookup (num a)
record_told num (Batch n) = Batch n

-- the bytes of a record whose addresses take w bytes: its kind, and its parts in turn
abbrev pub encode : ℕ → Record ℕ → List ℕ
encode w (Change (Add start finish hop)) = 0x01 ∷ (bytes_of w start ++ (bytes_of w finish ++ bytes_of 2 hop))
encode w (Change (Remove start finish)) = 0x02 ∷ (bytes_of w start ++ bytes_of w finish)
encode w (Lookup a) = 0x03 ∷ bytes_of w a
encode w (Batch n) = 0x04 ∷ bytes_of 1 n

-- the records that have bytes: each part fits its place, and a batch has 1 to 64 changes
abbrev pub WellFormed : ℕ → Record ℕ → Type 0
WellFormed w (Change (Add start finish hop)) = (start < 256 ^ w) × (finish < 256 ^ w) × (hop < 65536)
WellFormed w (Change (Remove start finish)) = (start < 256 ^ w) × (finish < 256 ^ w)
WellFormed w (Lookup a) = a < 256 ^ w
WellFormed w (Batch n) = (1 ≤ n) × (n ≤ 64)
