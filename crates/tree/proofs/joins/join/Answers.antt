use Rattle.std.proofs.Common.{◌≡◌, ◌+◌, max, sym, ap, ◌∙◌, subst, arith}
use Rattle.tree.specs.Tree.{height, node}
use Rattle.tree.specs.Nodes.{low_with, Held}
use Rattle.tree.proofs.Held.{join_wrote, cell_is}
use Rattle.tree.proofs.joins.join.Goals as goal

pub returns-clause-made : goal.returns-clause-made
returns-clause-made g c = λ l r P.
    let num = g.A.AddressKind.num in
    let hl : c.height.result ≡ height l = c.height.ensures l P.lower in
    let hr : c.height-2.result ≡ height r = c.height-2.ensures r P.upper in
    let h : c.max.result + 1 ≡ max (height l) (height r) + 1 = omega (arith, c.max.ensures) in
    let low = c.least_start-2.ensures l P.lower ∙ ap (λ x. low_with num l x) (c.least_start.ensures r P.upper) in
    subst (λ ms. Held num ms c.args.top.node (node l c.args.top.node c.args.top.rule r)) (sym c.write.ensures) (join_wrote num c.args.nodes.now _ _ _ l r _ _ (cell_is num l r _ _ _ _ _ low (sym P.lower.here) (sym P.upper.here) h) P)
