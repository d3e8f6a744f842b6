use Rattle.tree.specs.Nodes.{stored_height}
use Rattle.tree_edits.proofs.removes.+without_least.Given as goal

abbrev pub decreases-without_least : goal.decreases-without_least
decreases-without_least g l = stored_height l.nodes.now l.top.left
