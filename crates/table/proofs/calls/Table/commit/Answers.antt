use Rattle.table.proofs.Commits.{resolved_whole}
use Rattle.table.proofs.calls.Table.commit.Goals as goal

pub returns-then-resolved_between-clause-resolved : goal.returns-then-resolved_between-clause-resolved
returns-then-resolved_between-clause-resolved g c = λ _. resolved_whole _ _ _ _ c.first.ensures c.last.ensures c.if-resolved_between.ensures
