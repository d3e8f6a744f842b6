use Rattle.std.proofs.Common.{arith, length-append}
use Rattle.lines.proofs.Sizes.{number_short}
use Rattle.lines.proofs.line.write_refusal.Goals as goal

pub returns-clause-short : goal.returns-clause-short
returns-clause-short c = simp length-append (omega (arith, number_short c.args.refusal))
