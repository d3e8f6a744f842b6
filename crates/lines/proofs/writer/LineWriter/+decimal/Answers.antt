use Rattle.std.proofs.Common.{◌≡◌, ℕ, ◌+◌, ◌/◌, ◌%◌, ◌^◌, ◌<◌, ◌≤◌, [], ◌∷◌, length, decimal, ap, ◌∙◌, arith, length-append}
use Rattle.std.proofs.lemmas.Fmt.{decimal_digit, decimal_step}
use Rattle.lines.proofs.Writes.{grow, room_left}
use Rattle.lines.proofs.writer.LineWriter.+decimal.Goals as goal

longer : (n : ℕ) → 10 ≤ n → n < 2 ^ 64 → length (decimal n) ≡ length (decimal (n / 10)) + 1
longer n h l = ap length (decimal_step n h (omega arith)) ∙ length-append (decimal (n / 10)) ((48 + n % 10) ∷ [])

pub byte-requires : goal.byte-requires
byte-requires t c = omega (arith, ap length (decimal_digit c.args.n (omega arith)))

pub returns-then-n-lt10 : goal.returns-then-n-lt10
returns-then-n-lt10 t c = rw (decimal_digit c.args.n (omega arith)) c.byte.ensures

pub decimal-requires : goal.decimal-requires
decimal-requires t c = (omega arith, omega (arith, longer c.args.n (omega arith) (omega arith)))

pub byte-requires-else-n-lt10 : goal.byte-requires-else-n-lt10
byte-requires-else-n-lt10 t c = omega (arith, room_left c.decimal.ensures, longer c.args.n (omega arith) (omega arith))

pub returns-else-n-lt10 : goal.returns-else-n-lt10
returns-else-n-lt10 t c = rw (decimal_step c.args.n (omega arith) (omega arith)) (grow c.decimal.ensures c.byte-else-n-lt10.ensures)
