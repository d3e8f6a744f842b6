use Rattle.rules.proofs.Members.{canonical_ext}
use Rattle.rules.proofs.laws.range_sets.Goals as goal

pub returns-clause-equal : goal.returns-clause-equal
returns-clause-equal c = canonical_ext
