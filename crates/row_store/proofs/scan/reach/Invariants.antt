use Rattle.std.proofs.Common.{◌<◌, ◌-◌, length}
use Rattle.row_store.proofs.scan.reach.Given as goal

abbrev pub invariant-loop-end : goal.invariant-loop-end
invariant-loop-end g l = 0 < l.end

abbrev pub decreases-loop-end : goal.decreases-loop-end
decreases-loop-end g l = length l.held - l.end
