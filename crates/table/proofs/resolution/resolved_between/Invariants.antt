use Rattle.std.proofs.Common.{◌≡◌, ◌-◌}
use Rattle.rules.specs.Conflicts.{resolved_in}
use Rattle.table.proofs.resolution.resolved_between.Given as goal

-- what is left to walk decides the whole
abbrev pub invariant-loop-finish : goal.invariant-loop-finish
invariant-loop-finish g l =
    resolved_in (g.S.RangeStore.rules l.store) (g.S.Kind.AddressKind.num l.initial.d) (g.S.Kind.AddressKind.num l.finish)
    ≡ resolved_in (g.S.RangeStore.rules l.store) (g.S.Kind.AddressKind.num l.d) (g.S.Kind.AddressKind.num l.finish)

abbrev pub decreases-loop-finish : goal.decreases-loop-finish
decreases-loop-finish g l = g.S.Kind.AddressKind.last - g.S.Kind.AddressKind.num l.d
