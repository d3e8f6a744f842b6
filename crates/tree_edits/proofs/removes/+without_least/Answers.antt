use Rattle.std.proofs.Common.{ap, arith, subst}
use Rattle.tree.specs.Tree.{height, Balanced}
use Rattle.tree.specs.Nodes.{Held}
use Rattle.tree.proofs.Heights.{stored_falls}
use Rattle.tree_edits.specs.Edits.{without}
use Rattle.tree_edits.proofs.Prunes.{without_keeps}
use Rattle.tree_edits.proofs.Leasts.{opened_parts, without_below, without_parts, without_beyond}
use Rattle.tree_edits.proofs.removes.+without_least.Goals as goal

pub without_least-left-requires : goal.without_least-left-requires
without_least-left-requires g t c κs within =
    let num = g.A.AddressKind.num in
    let ns = c.args.nodes.now in
    let n = c.args.top in
    let m = c.in_Some-next.next in
    let p = c.requires.tree in
    let O = c.in_Some-next.ensures p.0 p.2.lower in
    let f = stored_falls num ns n.left m.left m.right O.is p.2.lower O.below O.above in
    let h = ap height O.is in
    (omega (arith, f.0, c.decreases), (within, (O.lower, O.upper, opened_parts num ns n.left p.0 m O p.2.lower, subst Balanced O.is p.3.2, omega (arith, h, p.4))))

pub balance-requires : goal.balance-requires
balance-requires g t c =
    let num = g.A.AddressKind.num in
    let ns = c.args.nodes.now in
    let n = c.args.top in
    let m = c.in_Some-next.next in
    let w = c.without_least-left in
    let p = c.requires.tree in
    let O = c.in_Some-next.ensures p.0 p.2.lower in
    let Q = opened_parts num ns n.left p.0 m O p.2.lower in
    let P = without_parts num ns n m p.0 p.1 p.2 O w.new.nodes (w.ensures.beyond O.lower O.upper Q) w.result w.auto.nodes (w.ensures.made O.lower O.upper Q) in
    record { parts = (without p.0, p.1, P, omega (arith, (without_keeps p.0 p.3.2).1, p.4), omega (arith, p.4)) }

pub returns-clause-made : goal.returns-clause-made
returns-clause-made g t c =
    let num = g.A.AddressKind.num in
    let ns = c.args.nodes.now in
    let n = c.args.top in
    let m = c.in_Some-next.next in
    let w = c.without_least-left in
    λ l r P.
    let O = c.in_Some-next.ensures l P.lower in
    let Q = opened_parts num ns n.left l m O P.lower in
    let P' = without_parts num ns n m l r P O w.new.nodes (w.ensures.beyond O.lower O.upper Q) w.result w.auto.nodes (w.ensures.made O.lower O.upper Q) in
    subst (λ u. Held num c.balance.new.nodes c.balance.result u) (without_below num ns n m l r P O) (c.balance.ensures.made (without l) r P')

pub returns-clause-beyond : goal.returns-clause-beyond
returns-clause-beyond g t c =
    let num = g.A.AddressKind.num in
    let ns = c.args.nodes.now in
    let n = c.args.top in
    let m = c.in_Some-next.next in
    let w = c.without_least-left in
    λ l r P.
    let O = c.in_Some-next.ensures l P.lower in
    let Q = opened_parts num ns n.left l m O P.lower in
    let far = w.ensures.beyond O.lower O.upper Q in
    let P' = without_parts num ns n m l r P O w.new.nodes far w.result w.auto.nodes (w.ensures.made O.lower O.upper Q) in
    without_beyond num ns n m l r P O w.new.nodes far c.balance.new.nodes (c.balance.ensures.beyond (without l) r P')
