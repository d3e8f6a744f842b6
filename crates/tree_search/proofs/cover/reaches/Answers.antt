use Rattle.std.proofs.Common.{sym, ap, ◌∙◌}
use Rattle.tree.specs.Tree.{rules_in}
use Rattle.tree_search.specs.Searches.{starts_by, any}
use Rattle.rules.proofs.Orders.{le_num}
use Rattle.tree_search.proofs.Firsts.{reach_tells, any_empty}
use Rattle.tree_search.proofs.cover.reaches.Goals as goal

pub returns-in_default : goal.returns-in_default
returns-in_default g c =
    let num = g.A.AddressKind.num in
    let p = starts_by (num c.args.d) in
    λ t H. sym (ap (λ u. any p (rules_in num u)) (c.in_default.ensures t H) ∙ any_empty p)

pub returns : goal.returns
returns g c =
    let num = g.A.AddressKind.num in
    λ t H.
    c.le.ensures ∙ le_num num g.met.A.AddressKind.by_number g.met.A.Ord.matches_partial_cmp c.in-Some.n.low c.args.d
    ∙ reach_tells num (num c.args.d) c.args.tree.now.link c.in-Some.n t (c.in-Some.ensures t H)
