-- What a line of input is answered.
use Rattle.std.specs.Prelude.{◌≡◌, ℕ, ◌^◌, ◌<◌, List, Ok, Err, Result}
use Rattle.std.specs.Str.Parse.{IsNumeral, digits_value, without_leading_plus}
use Rattle.address.specs.Numbers.{port_num}
use Rattle.address.specs.declared.port.Port.{Port}
use Rattle.rules.specs.Rules.{Rule}
use Rattle.table.specs.Answers.{told_rule, lookup_answer}
use Rattle.classify.specs.declared.verdict.Unclassified.{Unclassified}
use Rattle.classify.specs.declared.verdict.Unclassified.TheVariants.{NotAPort, Refused}

-- the line is a decimal numeral below 65,536; a plus sign may stand before it
abbrev pub PortNumeral : List ℕ → Type 0
PortNumeral line = IsNumeral 10 (without_leading_plus line) × (digits_value 10 (without_leading_plus line) < 2 ^ 16)

-- the number that a numeral names
abbrev pub port_of : List ℕ → ℕ
port_of line = digits_value 10 (without_leading_plus line)

-- no port, or what the lookup in a table of these rules answers at the port
abbrev pub Classified : List Rule → List ℕ → Result (Port × Port × ℕ) Unclassified → Type 0
Classified R line (Ok t) = PortNumeral line × (Ok (told_rule port_num t) ≡ lookup_answer R (port_of line))
Classified R line (Err NotAPort) = PortNumeral line → ⊥
Classified R line (Err (Refused e)) = PortNumeral line × (Err e ≡ lookup_answer R (port_of line))
