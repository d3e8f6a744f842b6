use Rattle.std.proofs.Common.{sym, subst, arith}
use Rattle.rules.specs.Answers.{numbered}
use Rattle.rules.proofs.Places.{order-less, order-equal, order-greater}
use Rattle.tree.specs.Tree.{before}
use Rattle.tree.specs.Nodes.{Held}
use Rattle.tree_edits.specs.Edits.{prune}
use Rattle.tree_edits.proofs.Prunes.{prune_keeps}
use Rattle.tree_edits.proofs.Leasts.{beside, beside-beyond, prune-left-is, prune-right-is, prune-here-is, prune-left-parts, prune-right-parts, prune-left-beyond, prune-right-beyond}
use Rattle.tree_edits.proofs.Sides.{sides}
use Rattle.tree_edits.proofs.removes.+remove.Goals as goal

pub remove-left-requires : goal.remove-left-requires
remove-left-requires g t c κs within =
    let a = c.args in
    let p = c.requires in
    let O = c.in_Some-top.ensures p.0 p.1 in
    let s = (sides g.A.AddressKind.num a.nodes.now a.root p.0 c.in_Some-top.top O p.1 p.2).0 in
    (omega (arith, s.falls, c.decreases), (within, (O.lower, O.below, s.balanced, omega (arith, s.lower, p.3))))

pub remove-right-requires : goal.remove-right-requires
remove-right-requires g t c κs within =
    let a = c.args in
    let p = c.requires in
    let O = c.in_Some-top.ensures p.0 p.1 in
    let s = (sides g.A.AddressKind.num a.nodes.now a.root p.0 c.in_Some-top.top O p.1 p.2).1 in
    (omega (arith, s.falls, c.decreases), (within, (O.upper, O.above, s.balanced, omega (arith, s.lower, p.3))))

pub balance-requires : goal.balance-requires
balance-requires g t c =
    let num = g.A.AddressKind.num in
    let lt = before num in
    let a = c.args in
    let ns = a.nodes.now in
    let x = a.sought in
    let n = c.in_Some-top.top in
    let w = c.remove-left in
    let p = c.requires in
    let O = c.in_Some-top.ensures p.0 p.1 in
    let s = sides num ns a.root p.0 n O p.1 p.2 in
    let P = prune-left-parts num lt x ns a.root p.0 n p.1 O w.new.nodes w.result w.auto.nodes (w.ensures.made O.lower O.below) (w.ensures.beyond O.lower O.below) in
    record { parts = (prune lt x O.lower, O.upper, P, omega (arith, (prune_keeps lt x O.lower s.0.balanced).1, s.0.lower, p.3), omega (arith, s.1.lower, p.3)) }

pub balance-requires-in-Greater : goal.balance-requires-in-Greater
balance-requires-in-Greater g t c =
    let num = g.A.AddressKind.num in
    let lt = before num in
    let a = c.args in
    let ns = a.nodes.now in
    let x = a.sought in
    let n = c.in_Some-top.top in
    let w = c.remove-right in
    let p = c.requires in
    let O = c.in_Some-top.ensures p.0 p.1 in
    let s = sides num ns a.root p.0 n O p.1 p.2 in
    let P = prune-right-parts num lt x ns a.root p.0 n p.1 O w.new.nodes w.result w.auto.nodes (w.ensures.made O.upper O.above) (w.ensures.beyond O.upper O.above) in
    record { parts = (O.lower, prune lt x O.upper, P, omega (arith, s.0.lower, p.3), omega (arith, (prune_keeps lt x O.upper s.1.balanced).1, s.1.lower, p.3)) }

pub merge-requires : goal.merge-requires
merge-requires g t c =
    let num = g.A.AddressKind.num in
    let a = c.args in
    let ns = a.nodes.now in
    let n = c.in_Some-top.top in
    let p = c.requires in
    let O = c.in_Some-top.ensures p.0 p.1 in
    let s = sides num ns a.root p.0 n O p.1 p.2 in
    (O.lower, O.upper, beside num (before num) a.sought ns a.root p.0 n p.1 O, s.1.balanced, omega (arith, s.0.lower, p.3), omega (arith, s.1.lower, p.3))

pub returns-in-Less : goal.returns-in-Less
returns-in-Less g t c =
    let num = g.A.AddressKind.num in
    let lt = before num in
    let a = c.args in
    let ns = a.nodes.now in
    let x = a.sought in
    let n = c.in_Some-top.top in
    let w = c.remove-left in
    record {
      made = λ u H.
          let O = c.in_Some-top.ensures u H in
          let P = prune-left-parts num lt x ns a.root u n H O w.new.nodes w.result w.auto.nodes (w.ensures.made O.lower O.below) (w.ensures.beyond O.lower O.below) in
          subst (λ v. Held num c.balance.new.nodes c.balance.result v) (sym (prune-left-is num lt x ns a.root u n H O (order-less (numbered num x) (numbered num n.rule) c.in-Less.ensures).0)) (c.balance.ensures.made (prune lt x O.lower) O.upper P);
      beyond = λ u H.
          let O = c.in_Some-top.ensures u H in
          let P = prune-left-parts num lt x ns a.root u n H O w.new.nodes w.result w.auto.nodes (w.ensures.made O.lower O.below) (w.ensures.beyond O.lower O.below) in
          prune-left-beyond num lt x ns a.root u n H O w.new.nodes c.balance.new.nodes (w.ensures.beyond O.lower O.below) (c.balance.ensures.beyond (prune lt x O.lower) O.upper P);
    }

pub returns-in-Greater : goal.returns-in-Greater
returns-in-Greater g t c =
    let num = g.A.AddressKind.num in
    let lt = before num in
    let a = c.args in
    let ns = a.nodes.now in
    let x = a.sought in
    let n = c.in_Some-top.top in
    let w = c.remove-right in
    let o = order-greater (numbered num x) (numbered num n.rule) c.in-Greater.ensures in
    record {
      made = λ u H.
          let O = c.in_Some-top.ensures u H in
          let P = prune-right-parts num lt x ns a.root u n H O w.new.nodes w.result w.auto.nodes (w.ensures.made O.upper O.above) (w.ensures.beyond O.upper O.above) in
          subst (λ v. Held num c.balance-in-Greater.new.nodes c.balance-in-Greater.result v) (sym (prune-right-is num lt x ns a.root u n H O o.0 o.1)) (c.balance-in-Greater.ensures.made O.lower (prune lt x O.upper) P);
      beyond = λ u H.
          let O = c.in_Some-top.ensures u H in
          let P = prune-right-parts num lt x ns a.root u n H O w.new.nodes w.result w.auto.nodes (w.ensures.made O.upper O.above) (w.ensures.beyond O.upper O.above) in
          prune-right-beyond num lt x ns a.root u n H O w.new.nodes c.balance-in-Greater.new.nodes (w.ensures.beyond O.upper O.above) (c.balance-in-Greater.ensures.beyond O.lower (prune lt x O.upper) P);
    }

pub returns-in-Equal : goal.returns-in-Equal
returns-in-Equal g t c =
    let num = g.A.AddressKind.num in
    let lt = before num in
    let a = c.args in
    let ns = a.nodes.now in
    let x = a.sought in
    let n = c.in_Some-top.top in
    let o = order-equal (numbered num x) (numbered num n.rule) c.in-Equal.ensures in
    record {
      made = λ u H.
          let O = c.in_Some-top.ensures u H in
          subst (λ v. Held num c.merge.new.nodes c.merge.result v) (sym (prune-here-is num lt x ns a.root u n H O o.0 o.1)) (c.merge.ensures.made O.lower O.upper (beside num lt x ns a.root u n H O));
      beyond = λ u H.
          let O = c.in_Some-top.ensures u H in
          beside-beyond num lt x ns a.root u n H O c.merge.new.nodes (c.merge.ensures.beyond O.lower O.upper (beside num lt x ns a.root u n H O));
    }
