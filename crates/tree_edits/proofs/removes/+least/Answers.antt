use Rattle.std.proofs.Common.{◌≡◌, length, MatchOption, subst}
use Rattle.tree.specs.Tree.{leaf}
use Rattle.tree.proofs.Held.{link-within}
use Rattle.tree_edits.specs.Beside.{LeastAt}
use Rattle.tree_edits.proofs.Leasts.{least_is}
use Rattle.tree_edits.proofs.removes.+least.Goals as goal

pub returns : goal.returns
returns g t c =
    let num = g.A.AddressKind.num in
    let s = c.args.tree.now in
    let ns = s.nodes.now in
    λ u H.
    let P = c.in_ok-n.ensures.parts u H in
    let L = subst (λ ms. MatchOption c.least.result (P.lower ≡ leaf) (λ f. LeastAt (length ms) P.lower f.0 f.1)) c.in_ok-n.ensures.row.0 (c.least.ensures P.lower P.below) in
    least_is num (length ns) s.link u P.lower c.in_ok-n.n.rule P.upper c.least.result c.unwrap_or.result P.is c.unwrap_or.ensures P.some (link-within num ns s.link u H) L
