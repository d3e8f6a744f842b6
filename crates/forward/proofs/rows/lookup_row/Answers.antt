-- A found destination writes its hop; a refused one, or the end of the row, ends the writing.
use Rattle.std.proofs.Common.{◌≡◌, [], length, drop, subst, arith}
use Rattle.std.proofs.lemmas.List.{at_drop_all}
use Rattle.address.specs.Numbers.{ipv4_num}
use Rattle.rules.specs.Rules.{rule}
use Rattle.forward.specs.Rows.{hops_of}
use Rattle.forward.proofs.Steps.{Done, more, stop, done}
use Rattle.forward.proofs.rows.lookup_row.Goals as goal

pub returns-in_default : goal.returns-in_default
returns-in_default g c =
    let R = g.S.RangeStore.rules c.args.table.now in
    let ds = c.args.destinations.now in
    let z = stop R ds c.args.hops.now c.loop-i.hops c.loop-i.i (ipv4_num c.new.result) c.in_default.field-0 (omega arith) c.new.ensures c.in_default.ensures.answer in
    let w = done R ds c.args.hops.now c.loop-i.hops c.loop-i.i (omega arith) (omega arith) z c.loop-i.invariant in
    record { answer = w.answer; written = w.written; right = w.right }

pub loop-i-preserved : goal.loop-i-preserved
loop-i-preserved g c =
    let R = g.S.RangeStore.rules c.args.table.now in
    more R c.args.destinations.now c.args.hops.now c.loop-i.hops c.loop-i.i (ipv4_num c.new.result) (rule (ipv4_num c.in-Ok.field-0-0) (ipv4_num c.in-Ok.field-0-1) c.in-Ok.hop)
    (omega arith) (omega arith) c.new.ensures c.in-Ok.ensures.answer c.loop-i.invariant

pub returns : goal.returns
unfolding hops_of
returns g c =
    let R = g.S.RangeStore.rules c.args.table.now in
    let ds = c.args.destinations.now in
    let n : c.loop-i.i ≡ length ds = omega arith in
    let z : hops_of R (drop c.loop-i.i ds) ≡ [] = at_drop_all (hops_of R) ds c.loop-i.i (omega arith) in
    let w = done R ds c.args.hops.now c.loop-i.hops c.loop-i.i (omega arith) (omega arith) z c.loop-i.invariant in
    let v = subst (Done R ds c.args.hops.now c.loop-i.hops) n w in
    record { answer = v.answer; written = v.written; right = v.right }
