use Rattle.std.proofs.Common.{◌∙◌, arith}
use Rattle.std.proofs.lemmas.Result.{err_from_is_err_and}
use Rattle.batch.proofs.Applies.{kept_behind, answer_of, left_of}
use Rattle.batch.proofs.applying.apply.Goals as goal

pub returns-in_err-apply_all-clause-answer : goal.returns-in_err-apply_all-clause-answer
returns-in_err-apply_all-clause-answer g c =
    let p = err_from_is_err_and c.from_residual.result c.from_residual.ensures.1 in
    rw (p.1, p.2) (answer_of _ _ _ _ _ _ _ c.end-n.ensures (omega arith) _ c.in_err-apply_all.ensures.answer)

pub returns-in_err-apply_all-clause-after : goal.returns-in_err-apply_all-clause-after
returns-in_err-apply_all-clause-after g c = c.apply_all.ensures.after ∙ left_of _ _ _ _ _ _ _ c.end-n.ensures (omega arith)

pub returns-in_err-apply_all-clause-kept : goal.returns-in_err-apply_all-clause-kept
returns-in_err-apply_all-clause-kept g c = kept_behind _ _ _ c.apply_all.ensures.kept

pub returns-clause-answer : goal.returns-clause-answer
returns-clause-answer g c = answer_of _ _ _ _ _ _ _ c.end-n.ensures (omega arith) _ c.in_ok-apply_all.ensures.answer

pub returns-clause-after : goal.returns-clause-after
returns-clause-after g c = c.apply_all.ensures.after ∙ left_of _ _ _ _ _ _ _ c.end-n.ensures (omega arith)

pub returns-clause-kept : goal.returns-clause-kept
returns-clause-kept g c = kept_behind _ _ _ c.apply_all.ensures.kept
