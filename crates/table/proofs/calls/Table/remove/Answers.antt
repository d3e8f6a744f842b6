use Rattle.std.proofs.Common.{◌≡◌, false, ltb, Some, ◌∙◌, arith, rules}
use Rattle.std.proofs.lemmas.Grind.{common_steps}
use Rattle.rules.specs.Rules.{hop_of}
use Rattle.batch.proofs.Backs.{removed_back}
use Rattle.table.proofs.calls.Table.remove.Goals as goal

pub returns-clause-after : goal.returns-clause-after
returns-clause-after g c =
    let s = c.args.self.now in
    let k = g.Self.Kind.AddressKind.num in
    let q = g.Self.RangeStore in
    let t : false ≡ ltb (k c.args.finish) (k c.args.start) = search rules in
    let e : Some c.in-Some.hop ≡ hop_of (q.rules s) (k c.args.start) (k c.args.finish) = search rules in
    let b : q.rules c.put.new.self ≡ q.rules s = c.put.ensures.after ∙ rw (c.take.ensures.room, c.take.ensures.after) (removed_back _ _ _ _ _ _ (g.met.Self.RangeStore.sound s) t e) in
    grind (arith, common_steps)
