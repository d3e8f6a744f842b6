use Rattle.std.proofs.Common.{◌≡◌, true, false, [], ◌∷◌, sym, refl, ap, ◌∙◌}
use Rattle.std.proofs.lemmas.Option.{MatchOption-at_none, MatchOption-at_some}
use Rattle.rules.specs.Rules.{covers}
use Rattle.rules.specs.Answers.{numbered, told}
use Rattle.mirror.specs.Mirrored.{or_else}
use Rattle.tree.specs.Tree.{rules_in}
use Rattle.tree_search.specs.Searches.{starts_by, any, first_with}
use Rattle.rules.proofs.Orders.{lt_num, le_num}
use Rattle.tree_search.proofs.Firsts.{cut_at, cover-left, cover-right, mark_new, mark_old, else_none, first_empty, first_on, first_off, any_on, any_off, covering_end}
use Rattle.tree_search.proofs.cover.first_covering.Goals as goal
use Rattle.tree_search.proofs.cover.first_covering.Goals.{then-le-via-then-le, then-le-via-else-le+then-reaches}

pub loop-n-init : goal.loop-n-init
loop-n-init g c =
    let num = g.A.AddressKind.num in
    let d = num c.args.d in
    λ t H C.
    let F = first_with (λ r. covers r d) (rules_in num t) in
    (t, [], H, refl, C, else_none F ∙ ap (or_else F) (sym (first_empty (starts_by d))))

pub loop-n-preserved-then-lt : goal.loop-n-preserved-then-lt
loop-n-preserved-then-lt g c =
    let num = g.A.AddressKind.num in
    let d = num c.args.d in
    let off = c.if-lt.ensures ∙ lt_num num g.met.A.AddressKind.by_number g.met.A.Ord.matches_partial_cmp c.in-Some.n.rule.finish c.args.d in
    λ t H C.
    let w = c.loop-n.invariant t H C in
    let P = c.in-Some.ensures.parts w.0 w.2 in
    (P.upper, w.1, P.above, w.3, (cut_at num P w.4).right, w.5 ∙ ap (λ o. or_else o (first_with (starts_by d) w.1)) (cover-right num P d w.4 off))

pub loop-n-preserved-then-le : goal.loop-n-preserved-then-le
loop-n-preserved-then-le g c =
    let num = g.A.AddressKind.num in
    let d = num c.args.d in
    let p = starts_by d in
    let x = c.in-Some.n.rule in
    let on = c.if-lt.ensures ∙ lt_num num g.met.A.AddressKind.by_number g.met.A.Ord.matches_partial_cmp x.finish c.args.d in
    let starts = le_num num g.met.A.AddressKind.by_number g.met.A.Ord.matches_partial_cmp x.start c.args.d in
    λ t H C.
    let w = c.loop-n.invariant t H C in
    let P = c.in-Some.ensures.parts w.0 w.2 in
    let N = numbered num x ∷ rules_in num P.upper in
    let some : any p N ≡ true =
    elim c.then-le.branch [
      | then-le-via-then-le b ↦ any_on p (numbered num x) (rules_in num P.upper) (sym (b.if-le.ensures ∙ starts))
      | then-le-via-else-le+then-reaches b ↦ any_off p (numbered num x) (rules_in num P.upper) (sym (b.if-le.ensures ∙ starts)) ∙ sym (b.if-reaches.ensures P.upper P.above)
    ] in
    let e = w.5 ∙ ap (λ o. or_else o (first_with p w.1)) (cover-left num P d w.4 on) in
    (P.lower, N, P.below, (P.upper, P.above, refl), (cut_at num P w.4).left, mark_new p (first_with (λ r. covers r d) (rules_in num t)) (first_with (λ r. covers r d) (rules_in num P.lower)) N w.1 e some)

pub loop-n-preserved : goal.loop-n-preserved
loop-n-preserved g c =
    let num = g.A.AddressKind.num in
    let d = num c.args.d in
    let p = starts_by d in
    let x = c.in-Some.n.rule in
    let on = c.if-lt.ensures ∙ lt_num num g.met.A.AddressKind.by_number g.met.A.Ord.matches_partial_cmp x.finish c.args.d in
    let starts = le_num num g.met.A.AddressKind.by_number g.met.A.Ord.matches_partial_cmp x.start c.args.d in
    λ t H C.
    let w = c.loop-n.invariant t H C in
    let P = c.in-Some.ensures.parts w.0 w.2 in
    let N = numbered num x ∷ rules_in num P.upper in
    let none : any p N ≡ false = any_off p (numbered num x) (rules_in num P.upper) (sym (c.if-le.ensures ∙ starts)) ∙ sym (c.if-reaches.ensures P.upper P.above) in
    let e = w.5 ∙ ap (λ o. or_else o (first_with p w.1)) (cover-left num P d w.4 on) in
    (P.lower, w.1, P.below, w.3, (cut_at num P w.4).left, mark_old p (first_with (λ r. covers r d) (rules_in num t)) (first_with (λ r. covers r d) (rules_in num P.lower)) N w.1 e none)

pub returns-in_err-rule : goal.returns-in_err-rule
returns-in_err-rule g c =
    let num = g.A.AddressKind.num in
    let d = num c.args.d in
    λ t H C.
    let w = c.loop-n.invariant t H C in
    ap (told num) c.from_residual.ensures
    ∙ sym (covering_end num d t w.0 w.1 C w.5 (c.in_default.ensures.parts w.0 w.2) ∙ ap (first_with (starts_by d)) (MatchOption-at_none _ _ c.in_err-rule.was w.3) ∙ first_empty (starts_by d))

pub returns-then-le-2 : goal.returns-then-le-2
returns-then-le-2 g c =
    let num = g.A.AddressKind.num in
    let d = num c.args.d in
    let x = c.in_ok-rule.rule in
    let starts = le_num num g.met.A.AddressKind.by_number g.met.A.Ord.matches_partial_cmp x.start c.args.d in
    λ t H C.
    let w = c.loop-n.invariant t H C in
    let m = MatchOption-at_some _ _ _ c.in_ok-rule.was w.3 in
    sym (covering_end num d t w.0 w.1 C w.5 (c.in_default.ensures.parts w.0 w.2) ∙ ap (first_with (starts_by d)) m.2 ∙ first_on (starts_by d) (numbered num x) (rules_in num m.0) (sym (c.if-le-2.ensures ∙ starts)))

pub returns-else-le-2 : goal.returns-else-le-2
returns-else-le-2 g c =
    let num = g.A.AddressKind.num in
    let d = num c.args.d in
    let x = c.in_ok-rule.rule in
    let starts = le_num num g.met.A.AddressKind.by_number g.met.A.Ord.matches_partial_cmp x.start c.args.d in
    λ t H C.
    let w = c.loop-n.invariant t H C in
    let m = MatchOption-at_some _ _ _ c.in_ok-rule.was w.3 in
    c.first_started.ensures m.0 m.1
    ∙ sym (covering_end num d t w.0 w.1 C w.5 (c.in_default.ensures.parts w.0 w.2) ∙ ap (first_with (starts_by d)) m.2 ∙ first_off (starts_by d) (numbered num x) (rules_in num m.0) (sym (c.if-le-2.ensures ∙ starts)))
