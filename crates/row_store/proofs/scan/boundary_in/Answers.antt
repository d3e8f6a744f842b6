use Rattle.std.proofs.Common.{rules, [], ◌∷◌, map, ap, ◌∙◌}
use Rattle.rules.specs.Boundaries.{next_boundary}
use Rattle.rules.specs.Answers.{numbered}
use Rattle.row_store.proofs.Scans.{boundary_on, boundary_none, pushed, all_passed}
use Rattle.row_store.proofs.scan.boundary_in.Goals as goal

pub loop-x-init : goal.loop-x-init
loop-x-init g c = ([], search rules, boundary_none _ _)

pub loop-x-preserved : goal.loop-x-preserved
loop-x-preserved g c =
    let k = g.A.AddressKind in
    (c.in-Some.x.now ∷ c.loop-x.invariant.0, pushed c.args.held.now _ _ _ c.in-Some.x.now c.loop-x.invariant.1 c.in-Some.ensures.steps, boundary_on (numbered k.num c.in-Some.x.now) _ k.last (k.num c.args.d) _ _ _ c.loop-x.invariant.2 c.nearer_end.ensures c.nearer-known.ensures)

pub returns : goal.returns
returns g c =
    let k = g.A.AddressKind in
    let e = all_passed c.args.held.now _ c.loop-x.invariant.0 c.loop-x.invariant.1 c.in-None.ensures.steps.0 in
    c.loop-x.invariant.2 ∙ ap (λ xs. next_boundary k.last (map (numbered k.num) xs) (k.num c.args.d)) e
