use Rattle.std.proofs.Common.{sym, subst}
use Rattle.tree.specs.Nodes.{Held}
use Rattle.tree_edits.specs.Edits.{amend}
use Rattle.tree_edits.proofs.Amends.{amend-held}
use Rattle.tree_edits.proofs.hops.set_hop.Goals as goal

pub returns-clause-made : goal.returns-clause-made
returns-clause-made g c =
    let num = g.A.AddressKind.num in
    let a = c.args in
    λ root t H. subst (λ ms. Held num ms root (amend a.k a.hop t)) (sym c.write.ensures) (amend-held a.k a.hop num a.nodes.now c.node_at-n.result c.requires.0 c.requires.1 c.node_at-n.ensures root t H)
