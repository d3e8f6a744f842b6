-- Laws of the definitions.
use Rattle.std.specs.Prelude.{◌≡◌, ℕ, List, ◌++◌, Some, Ok}
use Rattle.std.specs.Int.Digits.{AllBelowBase}
use Rattle.feed.specs.declared.record.Record.{Record}
use Rattle.feed.specs.Records.{encode, WellFormed}
use Rattle.feed.specs.Decode.{decode}
use Rattle.feed.specs.Runs.{run, Apart}

-- the bytes of a record, whatever stands behind them, are read as that record, and just what stands behind is left
abbrev pub EncodedLaw : Type 0
EncodedLaw = (w : ℕ) (r : Record ℕ) (rest : List ℕ) → WellFormed w r → decode w (encode w r ++ rest) ≡ Ok (Some (r, rest))

-- a record that is read has bytes, and they are the bytes that were taken
abbrev pub DecodedLaw : Type 0
DecodedLaw = (w : ℕ) (bs : List ℕ) (r : Record ℕ) (rest : List ℕ) → AllBelowBase 256 bs → decode w bs ≡ Ok (Some (r, rest)) → WellFormed w r × (bs ≡ encode w r ++ rest)

-- a run takes the feed apart into its records' bytes
abbrev pub ApartLaw : Type 0
ApartLaw = (w : ℕ) (feed : List ℕ) → AllBelowBase 256 feed → Apart w feed (run w feed)
