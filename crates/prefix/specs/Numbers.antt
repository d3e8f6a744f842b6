-- The last numbers of the two kinds, and their prefixes by numbers.
use Rattle.std.specs.Prelude.{ℕ}
use Rattle.address.specs.contracts.ipv4.Ipv4AddressKind.TheImpl.{ghosts as ipv4}
use Rattle.address.specs.contracts.ipv6.Ipv6AddressKind.TheImpl.{ghosts as ipv6}
use Rattle.prefix.specs.declared.bits.Bits.{Bits}
use Rattle.prefix.specs.declared.four.Prefix4.{Prefix4}
use Rattle.prefix.specs.declared.six.Prefix6.{Prefix6}
use Rattle.prefix.specs.Prefixes.{Prefix, prefix}

-- the ghosts of the kinds
abbrev pub ipv4_last : ℕ
ipv4_last = ipv4.last

abbrev pub ipv6_last : ℕ
ipv6_last = ipv6.last

abbrev pub bits : {w : ℕ} → Bits w → Prefix
bits p = prefix p.value p.length

abbrev pub prefix4 : Prefix4 → Prefix
prefix4 p = prefix p.value p.length

abbrev pub prefix6 : Prefix6 → Prefix
prefix6 p = bits p.0
