use Rattle.std.proofs.Common.{sym, ap, ◌∙◌}
use Rattle.std.specs.Option.{option_map}
use Rattle.mirror.specs.Mirrored.{or_else, finish_from}
use Rattle.tree.specs.Tree.{rules_in}
use Rattle.rules.proofs.Orders.{lt_num}
use Rattle.tree_search.proofs.Firsts.{cut_at}
use Rattle.tree_search.proofs.Finishes.{from_right, from_left, from_end}
use Rattle.tree_search.proofs.ends.finish_from.Goals as goal

pub loop-n-preserved-then-lt : goal.loop-n-preserved-then-lt
loop-n-preserved-then-lt g c =
    let num = g.A.AddressKind.num in
    let d = num c.args.d in
    λ t H C.
    let w = c.loop-n.invariant t H C in
    let P = c.in-Some.ensures.parts w.0 w.1 in (
      P.upper,
      P.above,
      (cut_at num P w.2).right,
      from_right num P w.2 d (finish_from (rules_in num t) d) (option_map num c.loop-n.found) (c.if-lt.ensures ∙ lt_num num g.met.A.AddressKind.by_number g.met.A.Ord.matches_partial_cmp c.in-Some.n.rule.finish c.args.d) w.3,
    )

pub loop-n-preserved : goal.loop-n-preserved
loop-n-preserved g c =
    let num = g.A.AddressKind.num in
    let d = num c.args.d in
    λ t H C.
    let w = c.loop-n.invariant t H C in
    let P = c.in-Some.ensures.parts w.0 w.1 in (
      P.lower,
      P.below,
      (cut_at num P w.2).left,
      from_left num P w.2 d (finish_from (rules_in num t) d) (option_map num c.loop-n.found) (c.if-lt.ensures ∙ lt_num num g.met.A.AddressKind.by_number g.met.A.Ord.matches_partial_cmp c.in-Some.n.rule.finish c.args.d) w.3,
    )

pub returns : goal.returns
returns g c =
    let num = g.A.AddressKind.num in
    let d = num c.args.d in
    λ t H C.
    let w = c.loop-n.invariant t H C in
    let e = c.in_default.ensures.parts w.0 w.1 in
    sym (w.3 ∙ ap (λ u. or_else (finish_from (rules_in num u) d) (option_map num c.loop-n.found)) e ∙ ap (λ o. or_else o (option_map num c.loop-n.found)) (from_end d))
