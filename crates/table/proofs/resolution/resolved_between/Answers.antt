use Rattle.std.proofs.Common.{◌≡◌, true, false, ltb, rules}
use Rattle.rules.proofs.Boundaries.{walk_past, walk_clash, walk_done, walk_on}
use Rattle.table.proofs.resolution.resolved_between.Goals as goal

pub returns-then-not-resolved_at : goal.returns-then-not-resolved_at
returns-then-not-resolved_at g c =
    let k = g.S.Kind.AddressKind in
    let t : false ≡ ltb (k.num c.args.finish) (k.num c.loop-finish.d) = search rules in
    walk_clash k.last _ _ (k.num c.loop-finish.d) _ c.loop-finish.invariant (g.met.S.Kind.AddressKind.bounded c.args.finish) t c.if-not-resolved_at.ensures

pub returns-in_default : goal.returns-in_default
returns-in_default g c =
    let k = g.S.Kind.AddressKind in
    let t : false ≡ ltb (k.num c.args.finish) (k.num c.loop-finish.d) = search rules in
    walk_done k.last _ _ (k.num c.loop-finish.d) _ c.loop-finish.invariant (g.met.S.Kind.AddressKind.bounded c.args.finish) t c.if-not-resolved_at.ensures c.in_default.ensures

pub loop-finish-preserved : goal.loop-finish-preserved
loop-finish-preserved g c =
    let k = g.S.Kind.AddressKind in
    let t : false ≡ ltb (k.num c.args.finish) (k.num c.loop-finish.d) = search rules in
    walk_on k.last _ _ (k.num c.loop-finish.d) _ c.loop-finish.invariant (g.met.S.Kind.AddressKind.bounded c.args.finish) (k.num c.in-Some.boundary) t c.if-not-resolved_at.ensures c.in-Some.ensures

pub returns : goal.returns
returns g c =
    let k = g.S.Kind.AddressKind in
    let t : true ≡ ltb (k.num c.args.finish) (k.num c.loop-finish.d) = search rules in
    walk_past k.last _ _ (k.num c.loop-finish.d) _ c.loop-finish.invariant (g.met.S.Kind.AddressKind.bounded c.args.finish) t
