-- Both trees take the rule, the second mirrored.
use Rattle.std.proofs.Common.{refl, rules}
use Rattle.tree_store.specs.Trees.{sound}
use Rattle.tree_store.proofs.Pairs.{both_put, second_fits}
use Rattle.tree_store.proofs.store.TreeStoreRangeStore.put.Goals as goal

pub put-requires-2-clause-room : goal.put-requires-2-clause-room
put-requires-2-clause-room g c =
    let s = c.args.self.now in
    let b = g.met.A.AddressKind.bounded in
    second_fits _ b (sound _ b s.rules s.mirrors s.same) s.same c.of.ensures c.of-2.ensures _ _ refl c.in_ok-may_put.ensures

pub invariant_of-self : goal.invariant_of-self
invariant_of-self g c =
    let s = c.args.self.now in
    let b = g.met.A.AddressKind.bounded in
    record { same = both_put _ b (sound _ b s.rules s.mirrors s.same) s.same c.of.ensures c.of-2.ensures _ (search rules) c.put.ensures.after c.put-2.ensures.after }
