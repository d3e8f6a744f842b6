-- The laws of prefixes, each by its lemma over the width.
use Rattle.prefix.proofs.Ranges.{valid_decides, range_forward, default_range, same-first_bits}
use Rattle.prefix.proofs.laws.prefix_laws.Goals as goal

pub returns-clause-valid : goal.returns-clause-valid
returns-clause-valid c = valid_decides

pub returns-clause-range : goal.returns-clause-range
returns-clause-range c = range_forward

pub returns-clause-default_range : goal.returns-clause-default_range
returns-clause-default_range c = default_range

pub returns-clause-first_bits : goal.returns-clause-first_bits
returns-clause-first_bits c = same-first_bits
