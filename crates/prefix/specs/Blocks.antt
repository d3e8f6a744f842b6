-- The IPv4 blocks that are not forwarded: a table of prefixes, and the test whether one of them covers an address.
use Rattle.std.specs.Prelude.{◌≡◌, ℕ, ◌+◌, ◌*◌, Bool, ◌⊎◌, List, [], ◌∷◌}
use Rattle.std.specs.List.{list_any}
use Rattle.rules.specs.Rules.{Rule, range, Covers, covers}
use Rattle.prefix.specs.Prefixes.{Prefix, prefix, range_of}

-- the number of the address that is written a.b.c.d
abbrev pub dotted : ℕ → ℕ → ℕ → ℕ → ℕ
dotted a b c d = ((a * 256 + b) * 256 + c) * 256 + d

abbrev pub blocks : List Prefix
blocks =
    prefix (dotted 0 0 0 0) 8
    ∷ prefix (dotted 127 0 0 0) 8
    ∷ prefix (dotted 169 254 0 0) 16
    ∷ prefix (dotted 192 0 2 0) 24
    ∷ prefix (dotted 198 51 100 0) 24
    ∷ prefix (dotted 203 0 113 0) 24
    ∷ prefix (dotted 240 0 0 0) 4
    ∷ []

-- the ranges that the blocks stand for, by their first and last addresses
abbrev pub edges : List Rule
edges =
    range (dotted 0 0 0 0) (dotted 0 255 255 255)
    ∷ range (dotted 127 0 0 0) (dotted 127 255 255 255)
    ∷ range (dotted 169 254 0 0) (dotted 169 254 255 255)
    ∷ range (dotted 192 0 2 0) (dotted 192 0 2 255)
    ∷ range (dotted 198 51 100 0) (dotted 198 51 100 255)
    ∷ range (dotted 203 0 113 0) (dotted 203 0 113 255)
    ∷ range (dotted 240 0 0 0) (dotted 255 255 255 255)
    ∷ []

-- p is in the table
abbrev pub In : Prefix → List Prefix → Type 0
In p [] = ⊥
In p (x ∷ xs) = (p ≡ x) ⊎ In p xs

-- there is a block whose range covers d
abbrev pub Blocked : ℕ → Type 0
Blocked d = (b : Prefix) × (In b blocks × Covers (range_of 32 b) d)

-- whether the range of some prefix of the table covers d
unfoldable pub some_covers : ℕ → List Prefix → ℕ → Bool
some_covers w ps d = list_any (λ p. covers (range_of w p) d) ps

abbrev pub blocked : ℕ → Bool
blocked d = some_covers 32 blocks d
