use Rattle.std.proofs.Common.{refl}
use Rattle.rules.specs.Rules.{insert, delete, hop_of}
use Rattle.rules.specs.Search.{best}
use Rattle.rules.specs.Conflicts.{resolved_from, resolved_in}
use Rattle.table.proofs.cases.worked_cases.Goals as goal

pub returns : goal.returns
unfolding insert delete hop_of best resolved_from resolved_in
returns c = refl
