use Rattle.std.proofs.Common.{sym, ap, ◌∙◌}
use Rattle.tree.specs.Tree.{rules_in}
use Rattle.tree_search.specs.Searches.{starts_by, first_with}
use Rattle.rules.proofs.Orders.{le_num}
use Rattle.tree_search.proofs.Firsts.{started-left, started-right, started-here, first_empty}
use Rattle.tree_search.proofs.cover.first_started.Goals as goal

pub loop-n-preserved-then-reaches : goal.loop-n-preserved-then-reaches
loop-n-preserved-then-reaches g c =
    let num = g.A.AddressKind.num in
    λ t H.
    let w = c.loop-n.invariant t H in
    let P = c.in-Some.ensures.parts w.0 w.1 in
    (P.lower, P.below, w.2 ∙ started-left num P (num c.args.d) (sym (c.if-reaches.ensures P.lower P.below)))

pub returns-then-le : goal.returns-then-le
returns-then-le g c =
    let num = g.A.AddressKind.num in
    λ t H.
    let w = c.loop-n.invariant t H in
    let P = c.in-Some.ensures.parts w.0 w.1 in
    sym (w.2 ∙ started-here num P (num c.args.d) (sym (c.if-reaches.ensures P.lower P.below)) (c.if-le.ensures ∙ le_num num g.met.A.AddressKind.by_number g.met.A.Ord.matches_partial_cmp c.in-Some.n.rule.start c.args.d))

pub loop-n-preserved : goal.loop-n-preserved
loop-n-preserved g c =
    let num = g.A.AddressKind.num in
    λ t H.
    let w = c.loop-n.invariant t H in
    let P = c.in-Some.ensures.parts w.0 w.1 in
    (P.upper, P.above, w.2 ∙ started-right num P (num c.args.d) (sym (c.if-reaches.ensures P.lower P.below)) (c.if-le.ensures ∙ le_num num g.met.A.AddressKind.by_number g.met.A.Ord.matches_partial_cmp c.in-Some.n.rule.start c.args.d))

pub returns : goal.returns
returns g c =
    let num = g.A.AddressKind.num in
    let p = starts_by (num c.args.d) in
    λ t H. let w = c.loop-n.invariant t H in sym (w.2 ∙ ap (λ u. first_with p (rules_in num u)) (c.in_default.ensures.parts w.0 w.1) ∙ first_empty p)
