-- Both trees lose the rule, the second mirrored.
use Rattle.tree_store.specs.Trees.{sound}
use Rattle.tree_store.proofs.Pairs.{both_take}
use Rattle.tree_store.proofs.store.TreeStoreRangeStore.take.Goals as goal

pub invariant_of-self : goal.invariant_of-self
invariant_of-self g c =
    let s = c.args.self.now in
    let b = g.met.A.AddressKind.bounded in
    record { same = both_take _ b (sound _ b s.rules s.mirrors s.same) s.same c.of.ensures c.of-2.ensures c.take.ensures.after c.take-2.ensures.after }
