use Rattle.std.proofs.Common.{refl, arith}
use Rattle.rules.specs.Rules.{ordered}
use Rattle.row_store.proofs.store.RowStore.new.Goals as goal

pub invariant_of-result : goal.invariant_of-result
unfolding ordered
invariant_of-result g c = record { within = omega arith; order = refl }
