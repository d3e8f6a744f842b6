use Rattle.tree_store.specs.Trees.{sound}
use Rattle.tree_store.proofs.Pairs.{no_start, start_is}
use Rattle.tree_store.proofs.store.TreeStoreRangeStore.greatest_start.Goals as goal

pub returns-in_err-finish : goal.returns-in_err-finish
returns-in_err-finish g c =
    let s = c.args.self.now in
    let b = g.met.A.AddressKind.bounded in
    rw c.from_residual.ensures (no_start _ b (sound _ b s.rules s.mirrors s.same) s.same c.of.ensures c.in_err-finish.ensures)

pub returns : goal.returns
returns g c =
    let s = c.args.self.now in
    let b = g.met.A.AddressKind.bounded in
    start_is _ b (sound _ b s.rules s.mirrors s.same) s.same c.of.ensures c.back.ensures c.back-2.ensures c.in_ok-finish.ensures
