use Rattle.std.proofs.Common.{◌≡◌}
use Rattle.batch.specs.Applied.{unwind}
use Rattle.batch.proofs.undoing.undo_all.Given as goal

-- what is left to take back leads to the same rules
abbrev pub invariant-loop-staged : goal.invariant-loop-staged
invariant-loop-staged g l =
    let q = g.S.RangeStore in
    let k = g.S.Kind.AddressKind.num in
    (q.capacity l.store ≡ q.capacity l.initial.store)
    × (unwind k (q.capacity l.initial.store) (q.rules l.store) l.staged-iterator.iter.rest.now ≡ unwind k (q.capacity l.initial.store) (q.rules l.initial.store) l.changes)
