-- Every lookup so far was found, and its hop is written.
use Rattle.forward.proofs.Steps.{Sofar}
use Rattle.forward.proofs.rows.lookup_row.Given as goal

abbrev pub invariant-loop-i : goal.invariant-loop-i
invariant-loop-i g l = Sofar (g.S.RangeStore.rules l.table) l.destinations l.initial.hops l.hops l.i
