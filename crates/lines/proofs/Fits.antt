-- Every line fits the line buffer.
use Rattle.std.proofs.Common.{Ok, Err, arith, length-append}
use Rattle.lines.specs.declared.answer.Answer.TheVariants.{Added, Removed, Found, Committed, Fault}
use Rattle.lines.specs.Lines.{FitsLaw}
use Rattle.lines.proofs.Sizes.{number_short, hop_short, size_short, dotted_short}

pub line_fits : FitsLaw
line_fits (Added (Ok u)) s = omega arith
line_fits (Added (Err e)) s = simp length-append (omega (arith, number_short e))
line_fits (Removed (Ok u)) s = omega arith
line_fits (Removed (Err e)) s = simp length-append (omega (arith, number_short e))
line_fits (Found (Ok rule)) s =
    simp length-append
    (omega (arith, dotted_short rule.0.value (omega (arith, rule.0.ok)), dotted_short rule.1.value (omega (arith, rule.1.ok)), hop_short rule.2 s))
line_fits (Found (Err e)) s = simp length-append (omega (arith, number_short e))
line_fits (Committed (Ok n)) s = simp length-append (omega (arith, size_short n s))
line_fits (Committed (Err e)) s = simp length-append (omega (arith, number_short e))
line_fits (Fault e place) s = simp length-append (omega (arith, number_short e, size_short place s))
