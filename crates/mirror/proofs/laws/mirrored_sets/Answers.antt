use Rattle.mirror.proofs.Mirrors.{greatest_start-mirrored}
use Rattle.mirror.proofs.Nexts.{next_boundary-mirrored}
use Rattle.mirror.proofs.laws.mirrored_sets.Goals as goal

pub returns : goal.returns
returns c = record { greatest_start = greatest_start-mirrored; next_boundary = next_boundary-mirrored }
