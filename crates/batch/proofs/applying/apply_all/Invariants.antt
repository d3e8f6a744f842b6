use Rattle.batch.proofs.Alls.{Going}
use Rattle.batch.proofs.applying.apply_all.Given as goal

abbrev pub invariant-loop-i : goal.invariant-loop-i
invariant-loop-i g l =
    let q = g.S.RangeStore in
    Going g.S.Kind.AddressKind.num g.S.Kind.AddressKind.last (q.capacity l.initial.store) (q.rules l.initial.store) l.initial.staged-items
    (q.capacity l.store) (q.rules l.store) l.staged-items l.i
