use Rattle.std.proofs.Common.{◌≡◌}
use Rattle.std.specs.Option.{option_map}
use Rattle.rules.specs.Rules.{Canonical}
use Rattle.mirror.specs.Mirrored.{or_else, finish_from}
use Rattle.tree.specs.Tree.{RuleTree, rules_in}
use Rattle.tree.specs.Nodes.{Held, stored_height}
use Rattle.tree_search.proofs.ends.finish_from.Given as goal

-- the tree that is left, or else what was found, decides the whole
abbrev pub invariant-loop-n : goal.invariant-loop-n
invariant-loop-n g l =
    let num = g.A.AddressKind.num in
    let d = num l.d in
    (t : RuleTree _) → Held num l.fn.tree.nodes.now l.fn.tree.link t → Canonical (rules_in num t)
    → (u : RuleTree _) × Held num l.tree.nodes.now l.tree.link u × Canonical (rules_in num u) × (finish_from (rules_in num t) d ≡ or_else (finish_from (rules_in num u) d) (option_map num l.found))

abbrev pub decreases-loop-n : goal.decreases-loop-n
decreases-loop-n g l = stored_height l.tree.nodes.now l.tree.link
