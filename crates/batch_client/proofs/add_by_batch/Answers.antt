use Rattle.batch.specs.declared.change.Change.TheVariants.{Add}
use Rattle.batch_client.proofs.Ones.{one_answer, one_left}
use Rattle.batch_client.proofs.add_by_batch.Goals as goal

pub returns-clause-answer : goal.returns-clause-answer
returns-clause-answer g c =
    let n = c.open-batch.ensures.count in
    let a = rw n at c.in_default.ensures.answer in
    rw (c.commit.ensures.answer, c.stage.ensures.count, c.stage.ensures.list, n) (one_answer _ _ _ g.S.Kind.AddressKind.num (Add c.args.start c.args.finish c.args.hop) _ a)

pub returns-clause-after : goal.returns-clause-after
returns-clause-after g c =
    let n = c.open-batch.ensures.count in
    let a = rw n at c.in_default.ensures.answer in
    rw (c.commit.ensures.after, c.stage.ensures.count, c.stage.ensures.list, n) (one_left _ _ _ g.S.Kind.AddressKind.num (Add c.args.start c.args.finish c.args.hop) _ a)
