-- The number of an address, for each kind by itself.
use Rattle.std.specs.Prelude.{ℕ, ◌+◌, ◌*◌, ◌^◌}
use Rattle.address.specs.declared.port.Port.{Port}
use Rattle.address.specs.declared.ipv4.Ipv4.{Ipv4}
use Rattle.address.specs.declared.ipv6.Ipv6.{Ipv6}

abbrev pub port_num : Port → ℕ
port_num x = x.value

abbrev pub ipv4_num : Ipv4 → ℕ
ipv4_num x = x.value

abbrev pub ipv6_num : Ipv6 → ℕ
ipv6_num x = x.high * 2 ^ 64 + x.low
