use Rattle.tree_engine.proofs.Changes.{new_rules, new_kept}
use Rattle.tree_engine.proofs.engine.Engine.new.Goals as goal

pub invariant_of-result : goal.invariant_of-result
invariant_of-result g c = record { kept = ∣ new_kept g.A.AddressKind.num c.args.nodes.now ∣₁ }

pub returns-clause-empty : goal.returns-clause-empty
returns-clause-empty g c = new_rules g.A.AddressKind.num c.args.nodes.now
