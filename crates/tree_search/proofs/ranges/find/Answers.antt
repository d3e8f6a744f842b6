use Rattle.std.proofs.Common.{sym, ap, ◌∙◌, subst}
use Rattle.rules.specs.Rules.{hop_of}
use Rattle.rules.specs.Answers.{numbered}
use Rattle.rules.proofs.Places.{order-less, order-equal, order-greater}
use Rattle.tree.specs.Tree.{rules_in}
use Rattle.tree.specs.Nodes.{Held}
use Rattle.tree_search.specs.Searches.{root_hop}
use Rattle.tree_search.proofs.Finds.{find-left, find-right, find-here, no_hop}
use Rattle.tree_search.proofs.ranges.find.Goals as goal

pub loop-n-preserved-in-Less : goal.loop-n-preserved-in-Less
loop-n-preserved-in-Less g c =
    let num = g.A.AddressKind.num in
    λ t H.
    let w = c.loop-n.invariant t H in
    let P = c.in-Some.ensures.parts w.0 w.1 in
    let f = find-left num P c.args.sought (order-less (numbered g.A.AddressKind.num c.args.sought) (numbered g.A.AddressKind.num c.in-Some.n.rule) c.in-Less.ensures).0 in
    (P.lower, P.below, c.in-Some.ensures.row.0 ∙ w.2, w.3 ∙ f.0, λ C. let z = w.4 C in let y = f.1 z.0 in (y.0, z.1 ∙ y.1))

pub loop-n-preserved : goal.loop-n-preserved
loop-n-preserved g c =
    let num = g.A.AddressKind.num in
    λ t H.
    let w = c.loop-n.invariant t H in
    let P = c.in-Some.ensures.parts w.0 w.1 in
    let o = order-greater (numbered g.A.AddressKind.num c.args.sought) (numbered g.A.AddressKind.num c.in-Some.n.rule) c.in-Greater.ensures in
    let f = find-right num P c.args.sought o.0 o.1 in
    (P.upper, P.above, c.in-Some.ensures.row.1 ∙ w.2, w.3 ∙ f.0, λ C. let z = w.4 C in let y = f.1 z.0 in (y.0, z.1 ∙ y.1))

pub returns-in-Equal-clause-place : goal.returns-in-Equal-clause-place
returns-in-Equal-clause-place g c =
    λ t H.
    let w = c.loop-n.invariant t H in
    let P = c.in-Some.ensures.parts w.0 w.1 in
    let o = order-equal (numbered g.A.AddressKind.num c.args.sought) (numbered g.A.AddressKind.num c.in-Some.n.rule) c.in-Equal.ensures in
    (P.some, sym (w.3 ∙ (find-here g.A.AddressKind.num P c.args.sought o.0 o.1).0))

pub returns-in-Equal-clause-held : goal.returns-in-Equal-clause-held
returns-in-Equal-clause-held g c =
    let num = g.A.AddressKind.num in
    λ t H C.
    let w = c.loop-n.invariant t H in
    let P = c.in-Some.ensures.parts w.0 w.1 in
    let z = w.4 C in
    let o = order-equal (numbered g.A.AddressKind.num c.args.sought) (numbered g.A.AddressKind.num c.in-Some.n.rule) c.in-Equal.ensures in
    let h = ap root_hop P.is in (
      z.1 ∙ (find-here num P c.args.sought o.0 o.1).1 z.0 ∙ h,
      (w.0, subst (λ ns. Held num ns c.loop-n.tree.link w.0) w.2 w.1, h),
    )

pub returns-clause-held : goal.returns-clause-held
returns-clause-held g c =
    let num = g.A.AddressKind.num in
    let x = c.args.sought in
    λ t H C.
    let w = c.loop-n.invariant t H in
    (w.4 C).1 ∙ ap (λ u. hop_of (rules_in num u) (num x.start) (num x.finish)) (c.in_default.ensures.parts w.0 w.1) ∙ no_hop (num x.start) (num x.finish)
