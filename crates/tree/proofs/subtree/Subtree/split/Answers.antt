use Rattle.tree.proofs.Held.{parted}
use Rattle.tree.proofs.Sides.{some_below, some_above, both_fall}
use Rattle.tree.proofs.subtree.Subtree.split.Goals as goal

pub invariant_of-left : goal.invariant_of-left
invariant_of-left g c = let s = c.args.self.now in record { held = some_below g.A.AddressKind.num s.nodes.now s.link c.in_ok-n.n s.held c.in_ok-n.ensures }

pub invariant_of-right : goal.invariant_of-right
invariant_of-right g c = let s = c.args.self.now in record { held = some_above g.A.AddressKind.num s.nodes.now s.link c.in_ok-n.n s.held c.in_ok-n.ensures }

pub returns-clause-parts : goal.returns-clause-parts
returns-clause-parts g c = let s = c.args.self.now in λ t H. parted g.A.AddressKind.num s.nodes.now s.link c.in_ok-n.n t H (c.in_ok-n.ensures t H)

pub returns-clause-falls : goal.returns-clause-falls
returns-clause-falls g c = let s = c.args.self.now in both_fall g.A.AddressKind.num s.nodes.now s.link c.in_ok-n.n s.held c.in_ok-n.ensures
