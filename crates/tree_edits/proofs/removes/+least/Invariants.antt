use Rattle.tree.specs.Nodes.{stored_height}
use Rattle.tree_edits.proofs.removes.+least.Given as goal

abbrev pub decreases-least : goal.decreases-least
decreases-least g l = stored_height l.tree.now.nodes.now l.tree.now.link
