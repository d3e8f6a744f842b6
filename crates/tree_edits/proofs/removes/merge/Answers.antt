use Rattle.std.proofs.Common.{length, ap, sym, subst, arith}
use Rattle.tree.specs.Tree.{height, Balanced}
use Rattle.tree.specs.Nodes.{Held}
use Rattle.tree_edits.specs.Edits.{without}
use Rattle.tree_edits.proofs.Prunes.{without_keeps}
use Rattle.tree_edits.proofs.Leasts.{opened_parts, merge_is, merge_parts, merge_beyond}
use Rattle.tree_edits.proofs.removes.merge.Goals as goal

pub without_least-right-requires : goal.without_least-right-requires
without_least-right-requires g c =
    let num = g.A.AddressKind.num in
    let a = c.args in
    let p = c.requires in
    let m = c.in-Some-Some.root in
    let O = c.in-Some-Some.ensures' p.1 p.2.upper in
    let e = ap height O.is in
    record { tree = (O.lower, O.upper, opened_parts num a.nodes.now a.right p.1 m O p.2.upper, subst Balanced O.is p.3, omega (arith, e, p.5)) }

pub balance-requires : goal.balance-requires
balance-requires g c =
    let num = g.A.AddressKind.num in
    let a = c.args in
    let ns = a.nodes.now in
    let m = c.in-Some-Some in
    let w = c.without_least-right in
    let p = c.requires in
    let O = m.ensures' p.1 p.2.upper in
    let Q = opened_parts num ns a.right p.1 m.root O p.2.upper in
    let P = merge_parts num ns a.left a.right p.0 p.1 p.2 m.node m.rule (m.ensures p.1 p.2.upper) m.root O w.new.nodes (w.ensures.beyond O.lower O.upper Q) w.result w.auto.nodes (w.ensures.made O.lower O.upper Q) in
    record { parts = (p.0, without p.1, P, omega (arith, p.4), omega (arith, (without_keeps p.1 p.3).1, p.5)) }

pub returns-clause-made : goal.returns-clause-made
returns-clause-made g c =
    let num = g.A.AddressKind.num in
    let a = c.args in
    let ns = a.nodes.now in
    let m = c.in-Some-Some in
    let w = c.without_least-right in
    λ l r B.
    let f = m.ensures r B.upper in
    let O = m.ensures' r B.upper in
    let Q = opened_parts num ns a.right r m.root O B.upper in
    let P = merge_parts num ns a.left a.right l r B m.node m.rule f m.root O w.new.nodes (w.ensures.beyond O.lower O.upper Q) w.result w.auto.nodes (w.ensures.made O.lower O.upper Q) in
    subst (λ t. Held num c.balance.new.nodes c.balance.result t) (sym (merge_is num (length ns) l r m.node m.rule f)) (c.balance.ensures.made l (without r) P)

pub returns-clause-beyond : goal.returns-clause-beyond
returns-clause-beyond g c =
    let num = g.A.AddressKind.num in
    let a = c.args in
    let ns = a.nodes.now in
    let m = c.in-Some-Some in
    let w = c.without_least-right in
    λ l r B.
    let f = m.ensures r B.upper in
    let O = m.ensures' r B.upper in
    let Q = opened_parts num ns a.right r m.root O B.upper in
    let far = w.ensures.beyond O.lower O.upper Q in
    let P = merge_parts num ns a.left a.right l r B m.node m.rule f m.root O w.new.nodes far w.result w.auto.nodes (w.ensures.made O.lower O.upper Q) in
    merge_beyond num ns a.left a.right l r B m.node m.rule f m.root O w.new.nodes far c.balance.new.nodes (c.balance.ensures.beyond l (without r) P)
