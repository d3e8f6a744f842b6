use Rattle.std.proofs.Common.{arith}
use Rattle.batch.proofs.Alls.{going_start, going_on, going-err, going_back, going_end}
use Rattle.batch.proofs.applying.apply_all.Goals as goal

pub loop-i-init : goal.loop-i-init
loop-i-init g c = going_start _ _ _ _ _

pub returns-in-Err-clause-answer : goal.returns-in-Err-clause-answer
returns-in-Err-clause-answer g c = going-err _ _ _ _ _ _ _ _ _ c.staged-item.result c.loop-i.invariant (omega arith) _ c.in-Err.ensures.answer

pub returns-in-Err-clause-after : goal.returns-in-Err-clause-after
returns-in-Err-clause-after g c =
    going_back _ _ _ _ _ _ _ _ _ c.staged-item.result c.loop-i.invariant (omega arith) _ _ _ _ c.apply_one.ensures.room c.in-Err.ensures.answer c.in-Err.ensures.back c.undo.ensures.after

pub loop-i-preserved : goal.loop-i-preserved
loop-i-preserved g c =
    going_on _ _ _ _ _ _ _ _ _ c.staged-item.result c.loop-i.invariant (omega arith) _ _ _ c.apply_one.ensures.room c.in-Ok.ensures.answer c.apply_one.ensures.after c.in-Ok.ensures.back

pub returns-clause-answer : goal.returns-clause-answer
returns-clause-answer g c = (going_end _ _ _ _ _ _ _ _ _ c.loop-i.invariant (omega arith)).answer

pub returns-clause-after : goal.returns-clause-after
returns-clause-after g c = (going_end _ _ _ _ _ _ _ _ _ c.loop-i.invariant (omega arith)).after
