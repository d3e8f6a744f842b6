use Rattle.batch.proofs.Backs.{added_back}
use Rattle.batch.proofs.applying.apply_add.Goals as goal

pub returns-clause-back : goal.returns-clause-back
returns-clause-back g c =
    let s = c.args.store.now in
    let k = g.S.Kind.AddressKind.num in
    rw c.put.ensures.after (added_back _ _ _ (k c.args.start) (k c.args.finish) c.args.hop _ (g.met.S.RangeStore.sound s) c.hop_of-held.ensures c.in_ok-put.ensures.answer)
