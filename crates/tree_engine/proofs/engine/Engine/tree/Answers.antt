use mathlib.Core.Logic.{∥∥₁_map}
use base.Stored.{Coded-set}
use Rattle.tree_engine.proofs.Seal.{unseal}
use Rattle.tree_engine.proofs.engine.Engine.tree.Goals as goal

pub invariant_of-result : goal.invariant_of-result
invariant_of-result g c = record { held = ∥∥₁_map c.args.self.now.kept (λ K. (_, K.held)) }

pub returns-clause-whole : goal.returns-clause-whole
returns-clause-whole g c = (unseal (Coded-set g.row.A.coded) _ _ _ c.args.self.now.kept).held

pub returns-clause-order : goal.returns-clause-order
returns-clause-order g c = (unseal (Coded-set g.row.A.coded) _ _ _ c.args.self.now.kept).canonical
