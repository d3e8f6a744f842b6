use Rattle.std.proofs.Common.{◌≡◌, List, ◌++◌, map}
use Rattle.std.specs.Option.{option_map}
use Rattle.rules.specs.declared.rule.Rule.{Rule as Stored}
use Rattle.rules.specs.Boundaries.{next_boundary}
use Rattle.rules.specs.Answers.{numbered}
use Rattle.row_store.proofs.scan.boundary_in.Given as goal

-- the rules that are passed decide what is known
abbrev pub invariant-loop-x : goal.invariant-loop-x
invariant-loop-x g l =
    let k = g.A.AddressKind in
    ((ys : List (Stored g.row.A.Denot)) × (l.held ≡ l.x-iterator.iter.rest.now ++ ys) × (option_map k.num l.known ≡ next_boundary k.last (map (numbered k.num) ys) (k.num l.d)))
