use Rattle.std.proofs.Common.{◌≡◌, None, ◌∙◌, arith}
use Rattle.std.proofs.lemmas.Grind.{common_steps}
use Rattle.rules.specs.Rules.{hop_of}
use Rattle.batch.proofs.Backs.{added_back}
use Rattle.table.proofs.calls.Table.add.Goals as goal

pub returns-clause-after : goal.returns-clause-after
returns-clause-after g c =
    let s = c.args.self.now in
    let k = g.Self.Kind.AddressKind.num in
    let q = g.Self.RangeStore in
    let n : None ≡ hop_of (q.rules s) (k c.args.start) (k c.args.finish) = grind (arith, common_steps) in
    let b : q.rules c.take.new.self ≡ q.rules s = c.take.ensures.after ∙ rw c.put.ensures.after (added_back (q.capacity s) _ (q.rules s) _ _ c.args.hop None (g.met.Self.RangeStore.sound s) n c.in_ok-put.ensures.answer) in
    grind (arith, common_steps)
