-- Both sides of a node that an edit opens: each is balanced, lower than the tree, and stored so.
use Rattle.std.proofs.Common.{ℕ, ◌<◌, List, ap, subst, arith}
use Rattle.tree.specs.declared.node.Node.{Node}
use Rattle.tree.specs.declared.node.Branch.{Branch}
use Rattle.tree.specs.Tree.{RuleTree, height, Balanced}
use Rattle.tree.specs.Nodes.{Held, Opened, stored_height}
use Rattle.tree.proofs.Heights.{stored_falls}

-- u, behind the link left, is a side of the tree t behind the link k
pub record Side {A : Type 0} (ns : List (Node A)) (k left : ℕ) (t u : RuleTree A) : Type 0 where
  pub balanced : Balanced u
  pub lower : height u < height t
  pub falls : stored_height ns left < stored_height ns k

pub sides : {A : Type 0} (num : A → ℕ) (ns : List (Node A)) (k : ℕ) (t : RuleTree A) (n : Branch A) (O : Opened num ns k t n) → Held num ns k t → Balanced t → Side ns k n.left t O.lower × Side ns k n.right t O.upper
sides num ns k t n O H b =
    let B = subst Balanced O.is b in
    let h = ap height O.is in
    let f = stored_falls num ns k n.left n.right O.is H O.below O.above in
    (record { balanced = B.2; lower = omega (arith, h); falls = f.0 }, record { balanced = B.3; lower = omega (arith, h); falls = f.1 })
