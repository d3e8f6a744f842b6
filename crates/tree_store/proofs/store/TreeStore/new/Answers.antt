use Rattle.std.proofs.Common.{sym, ap, ◌∙◌}
use Rattle.mirror.specs.Mirrored.{mirrored}
use Rattle.tree_store.proofs.Pairs.{mirrored_none}
use Rattle.tree_store.proofs.store.TreeStore.new.Goals as goal

pub invariant_of-result : goal.invariant_of-result
invariant_of-result g c =
    let last = g.A.AddressKind.last in
    record { same = c.new-2.ensures.empty ∙ sym (ap (mirrored last) c.new.ensures.empty ∙ mirrored_none last) }
