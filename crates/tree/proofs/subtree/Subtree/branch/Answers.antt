use Rattle.tree.proofs.Held.{opened}
use Rattle.tree.proofs.subtree.Subtree.branch.Goals as goal

pub returns : goal.returns
returns g c = let s = c.args.self.now in λ t H. opened g.A.AddressKind.num s.nodes.now s.link c.in_ok-n.n t H (c.in_ok-n.ensures t H)
