use Rattle.std.proofs.Common.{arith, length-append}
use Rattle.std.proofs.lemmas.List.{append-nil}
use Rattle.lines.proofs.Writes.{grow, room_left}
use Rattle.lines.proofs.Sizes.{hop_short}
use Rattle.lines.proofs.line.write_rule.Goals as goal

pub number-requires : goal.number-requires
number-requires c =
    omega (arith, hop_short c.from.result (omega arith), room_left c.address.ensures.wrote, room_left c.address-2.ensures.wrote)

pub returns-clause-wrote : goal.returns-clause-wrote
returns-clause-wrote c =
    let hop = rw c.from.ensures at c.number.ensures in
    simp append-nil (grow c.address.ensures.wrote (grow c.address-2.ensures.wrote hop))

pub returns-clause-short : goal.returns-clause-short
returns-clause-short c = let h = hop_short c.args.hop (omega arith) in simp length-append (omega arith)
