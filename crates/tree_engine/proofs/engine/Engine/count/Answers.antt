use Rattle.std.proofs.Common.{sym}
use base.Stored.{Coded-set}
use Rattle.tree_engine.proofs.Seal.{unseal}
use Rattle.tree_engine.proofs.engine.Engine.count.Goals as goal

pub returns : goal.returns
returns g c = sym (unseal (Coded-set g.row.A.coded) _ _ _ c.args.self.now.kept).counted
