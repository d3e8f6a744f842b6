use Rattle.std.proofs.Common.{◌≡◌}
use Rattle.rules.specs.Rules.{Canonical, hop_of}
use Rattle.tree.specs.Tree.{RuleTree, rules_in, before, look}
use Rattle.tree.specs.Nodes.{Held, stored_height}
use Rattle.tree_search.proofs.ranges.find.Given as goal

-- the tree that is left, in the same row, decides the whole
abbrev pub invariant-loop-n : goal.invariant-loop-n
invariant-loop-n g l =
    let num = g.A.AddressKind.num in
    let x = l.sought in
    (t : RuleTree _) → Held num l.fn.tree.nodes.now l.fn.tree.link t
    → (u : RuleTree _) × Held num l.tree.nodes.now l.tree.link u × (l.tree.nodes.now ≡ l.fn.tree.nodes.now) × (look (before num) x t ≡ look (before num) x u)
    × (Canonical (rules_in num t) → Canonical (rules_in num u) × (hop_of (rules_in num t) (num x.start) (num x.finish) ≡ hop_of (rules_in num u) (num x.start) (num x.finish)))

abbrev pub decreases-loop-n : goal.decreases-loop-n
decreases-loop-n g l = stored_height l.tree.nodes.now l.tree.link
