use Rattle.std.proofs.Common.{None, ap, ◌∙◌}
use Rattle.mirror.specs.Mirrored.{nearest_of, behind}
use Rattle.tree_store.specs.Trees.{sound}
use Rattle.tree_store.proofs.Pairs.{no_next, next_is}
use Rattle.tree_store.proofs.store.TreeStoreRangeStore.next_boundary.Goals as goal

pub returns-in_default : goal.returns-in_default
returns-in_default g c =
    let k = g.A.AddressKind in
    let s = c.args.self.now in
    let b = g.met.A.AddressKind.bounded in
    no_next _ b (sound _ b s.rules s.mirrors s.same) s.same c.of.ensures (c.end_above-end.ensures ∙ ap (λ w. nearest_of k.last (k.num c.args.d) (behind w) None) c.finish_from.ensures) c.in_default.ensures

pub returns : goal.returns
returns g c =
    let k = g.A.AddressKind in
    let s = c.args.self.now in
    let b = g.met.A.AddressKind.bounded in
    c.nearer.ensures ∙ next_is _ b (sound _ b s.rules s.mirrors s.same) s.same c.of.ensures (c.end_above-end.ensures ∙ ap (λ w. nearest_of k.last (k.num c.args.d) (behind w) None) c.finish_from.ensures) c.back.ensures c.in-Some.ensures
