use Rattle.std.proofs.Common.{◌≡◌, map, take}
use Rattle.rules.specs.Search.{greatest_start}
use Rattle.rules.specs.Answers.{numbered, told}
use Rattle.row_store.proofs.scan.closest_in.Given as goal

abbrev pub invariant-loop-x : goal.invariant-loop-x
invariant-loop-x g l =
    let k = g.A.AddressKind in
    told k.num l.best ≡ greatest_start (map (numbered k.num) (take l.x-index l.held)) (k.num l.d)
