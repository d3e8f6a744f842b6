use Rattle.std.proofs.Common.{◌≡◌}
use Rattle.tree.specs.Tree.{RuleTree, rules_in}
use Rattle.tree.specs.Nodes.{Held, stored_height}
use Rattle.tree_search.specs.Searches.{starts_by, first_with}
use Rattle.tree_search.proofs.cover.first_started.Given as goal

-- the tree that is left decides the whole
abbrev pub invariant-loop-n : goal.invariant-loop-n
invariant-loop-n g l =
    let num = g.A.AddressKind.num in
    let p = starts_by (num l.d) in
    (t : RuleTree _) → Held num l.fn.tree.nodes.now l.fn.tree.link t → (u : RuleTree _) × Held num l.tree.nodes.now l.tree.link u × (first_with p (rules_in num t) ≡ first_with p (rules_in num u))

abbrev pub decreases-loop-n : goal.decreases-loop-n
decreases-loop-n g l = stored_height l.tree.nodes.now l.tree.link
