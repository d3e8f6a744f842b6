use Rattle.std.proofs.Common.{sym, subst}
use Rattle.std.proofs.lemmas.List.{append-nil}
use Rattle.lines.specs.Writes.{Wrote}
use Rattle.lines.specs.Lines.{spaced, parts}
use Rattle.lines.proofs.Writes.{grow}
use Rattle.lines.proofs.line.write_parts.Goals as goal

pub returns-in-Fault-clause-wrote : goal.returns-in-Fault-clause-wrote
returns-in-Fault-clause-wrote c =
    subst (λ a. Wrote c.args.line.now (spaced (parts a)) c.size-in-Fault.new.self) (sym c.in-Fault.is)
    (simp append-nil (grow (simp append-nil at c.write_refusal.ensures.wrote) c.size-in-Fault.ensures.wrote))
