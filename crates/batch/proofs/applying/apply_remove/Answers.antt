use Rattle.std.proofs.Common.{◌≡◌, false, ltb, Some, rules}
use Rattle.rules.specs.Rules.{hop_of}
use Rattle.batch.proofs.Backs.{removed_back}
use Rattle.batch.proofs.applying.apply_remove.Goals as goal

pub returns-clause-back : goal.returns-clause-back
returns-clause-back g c =
    let s = c.args.store.now in
    let k = g.S.Kind.AddressKind.num in
    let t : false ≡ ltb (k c.args.finish) (k c.args.start) = search rules in
    let e : Some c.in-Some.hop ≡ hop_of (g.S.RangeStore.rules s) (k c.args.start) (k c.args.finish) = search rules in
    rw c.take.ensures.after (removed_back _ _ _ _ _ _ (g.met.S.RangeStore.sound s) t e)
