use Rattle.std.proofs.Common.{◌≡◌, map, drop}
use Rattle.rules.specs.Rules.{covers}
use Rattle.rules.proofs.Places.{first}
use Rattle.rules.specs.Answers.{numbered}
use Rattle.row_store.proofs.scan.first_in.Given as goal

abbrev pub invariant-loop-x : goal.invariant-loop-x
invariant-loop-x g l =
    let f = numbered g.A.AddressKind.num in
    let d = g.A.AddressKind.num l.d in
    first (λ r. covers r d) (map f l.held) ≡ first (λ r. covers r d) (map f (drop l.x-index l.held))
