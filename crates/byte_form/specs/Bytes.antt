-- The byte form of a number: so many bytes, the highest first.
use Rattle.std.specs.Prelude.{ℕ, zero, suc, ◌/◌, ◌%◌, cond, List, [], ◌∷◌, ◌++◌, length, Some, None, Option, ◌==◌}
use Rattle.std.specs.Int.Digits.{number_from_digits}

-- n in `width` bytes
unfoldable pub bytes_of : ℕ → ℕ → List ℕ
bytes_of zero n = []
bytes_of (suc width) n = bytes_of width (n / 256) ++ (n % 256 ∷ [])

-- the number that exactly `width` bytes write
abbrev pub number_of : ℕ → List ℕ → Option ℕ
number_of width bs = cond (length bs == width) (Some (number_from_digits 256 bs)) None
