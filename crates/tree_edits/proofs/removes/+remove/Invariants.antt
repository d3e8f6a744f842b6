use Rattle.tree.specs.Nodes.{stored_height}
use Rattle.tree_edits.proofs.removes.+remove.Given as goal

abbrev pub decreases-remove : goal.decreases-remove
decreases-remove g l = stored_height l.nodes.now l.root
