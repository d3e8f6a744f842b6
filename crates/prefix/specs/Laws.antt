-- What prefixes and their ranges are, as statements that functions of this crate promise.
use Rattle.std.specs.Prelude.{◌≡◌, ℕ, ◌-◌, ◌^◌, ◌<◌, ◌≤◌, map, Decides}
use Rattle.rules.specs.Rules.{Rule, range, Covers, covers}
use Rattle.prefix.specs.Prefixes.{Prefix, valid, Valid, range_of, first_bits}
use Rattle.prefix.specs.Numbers.{ipv4_last, ipv6_last}
use Rattle.prefix.specs.Blocks.{In, blocks, edges, Blocked, blocked}

-- the test means what the relation says
abbrev pub ValidLaw : Type 0
ValidLaw = (w : ℕ) (p : Prefix) → p.value < 2 ^ w → Decides (valid w p) (Valid w p)

-- the range runs forward and stays among the addresses
abbrev pub RangeLaw : Type 0
RangeLaw = (w : ℕ) (p : Prefix) → Valid w p → ((range_of w p).start ≤ (range_of w p).finish) × ((range_of w p).finish ≤ 2 ^ w - 1)

-- length 0 is the default range
abbrev pub DefaultLaw : Type 0
DefaultLaw = (w : ℕ) (p : Prefix) → Valid w p → p.length ≡ 0 → range_of w p ≡ range 0 (2 ^ w - 1)

-- full length is a single address
abbrev pub SingleLaw : Type 0
SingleLaw = (w : ℕ) (p : Prefix) → Valid w p → p.length ≡ w → range_of w p ≡ range p.value p.value

-- an address is in the range if, and only if, its first bits are those of the prefix
abbrev pub FirstBitsLaw : Type 0
FirstBitsLaw =
    (w : ℕ) (p : Prefix) → Valid w p → (d : ℕ)
    → (Covers (range_of w p) d → first_bits w p.length d ≡ first_bits w p.length p.value)
    × (first_bits w p.length d ≡ first_bits w p.length p.value → Covers (range_of w p) d)

-- the test that `contains` answers means that the range covers the address
abbrev pub CoversLaw : Type 0
CoversLaw = (r : Rule) (d : ℕ) → Decides (covers r d) (Covers r d)

-- the addresses of a kind are the numbers of its width
abbrev pub WidthsLaw : Type 0
WidthsLaw = (ipv4_last ≡ 2 ^ 32 - 1) × (ipv6_last ≡ 2 ^ 128 - 1)

-- every block of the table is a prefix of 32 bits
abbrev pub BlocksLaw : Type 0
BlocksLaw = (b : Prefix) → In b blocks → Valid 32 b

-- the formula gives the blocks' first and last addresses
abbrev pub EdgesLaw : Type 0
EdgesLaw = map (range_of 32) blocks ≡ edges

-- the test means that there is a block whose range covers the address
abbrev pub BlockedLaw : Type 0
BlockedLaw = (d : ℕ) → Decides (blocked d) (Blocked d)
