use Rattle.tree.specs.Nodes.{stored_height}
use Rattle.tree_edits.proofs.inserts.+insert.Given as goal

abbrev pub decreases-insert : goal.decreases-insert
decreases-insert g l = stored_height l.nodes.now l.root
