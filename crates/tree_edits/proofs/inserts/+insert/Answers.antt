use Rattle.std.proofs.Common.{◌≡◌, sym, ap, subst, arith}
use Rattle.tree.specs.Tree.{leaf, uses, before}
use Rattle.tree.specs.Nodes.{Held}
use Rattle.tree.proofs.Held.{not_own}
use Rattle.tree_edits.specs.Edits.{grow}
use Rattle.tree_edits.proofs.Grows.{grow_keeps, grow-uses, grow_left_parts, grow_right_parts, grow_left_is, grow_right_is, grow_left_beyond, grow_right_beyond, leaf-parts}
use Rattle.tree_edits.proofs.Sides.{sides}
use Rattle.tree_edits.proofs.inserts.+insert.Goals as goal

pub join-requires : goal.join-requires
join-requires g t c = record { parts = (leaf, leaf, leaf-parts g.A.AddressKind.num c.args.nodes.now c.args.i c.requires.free.0 c.requires.free.1, omega arith, omega arith) }

pub returns-in_default-top : goal.returns-in_default-top
returns-in_default-top g t c =
    let num = g.A.AddressKind.num in
    let lt = before num in
    let a = c.args in
    let ns = a.nodes.now in
    record {
      made = λ u H off.
          subst (λ v. Held num c.join.new.nodes a.i (grow lt v a.i a.rule)) (sym (c.in_default-top.ensures u H))
          (c.join.ensures.made leaf leaf (leaf-parts num ns a.i c.requires.free.0 c.requires.free.1));
      beyond = λ u H off j d z v. c.join.ensures.only j d z (not_own a.i j (omega (arith, grow-uses lt u a.i a.rule j)));
    }

pub insert-left-requires : goal.insert-left-requires
insert-left-requires g t c κs within =
    let a = c.args in
    let p = c.requires.tree in
    let O = c.in_Some-top.ensures p.0 p.1 in
    let s = (sides g.A.AddressKind.num a.nodes.now a.root p.0 c.in_Some-top.top O p.1 p.2).0 in
    (omega (arith, s.falls, c.decreases), (within, (c.requires.free, (O.lower, O.below, s.balanced, omega (arith, s.lower, p.3), omega (arith, ap (λ u. uses a.i u) O.is, p.4)))))

pub insert-right-requires : goal.insert-right-requires
insert-right-requires g t c κs within =
    let a = c.args in
    let p = c.requires.tree in
    let O = c.in_Some-top.ensures p.0 p.1 in
    let s = (sides g.A.AddressKind.num a.nodes.now a.root p.0 c.in_Some-top.top O p.1 p.2).1 in
    (omega (arith, s.falls, c.decreases), (within, (c.requires.free, (O.upper, O.above, s.balanced, omega (arith, s.lower, p.3), omega (arith, ap (λ u. uses a.i u) O.is, p.4)))))

pub balance-requires : goal.balance-requires
balance-requires g t c =
    let num = g.A.AddressKind.num in
    let lt = before num in
    let a = c.args in
    let ns = a.nodes.now in
    let n = c.in_Some-top.top in
    let w = c.insert-left in
    let p = c.requires.tree in
    let O = c.in_Some-top.ensures p.0 p.1 in
    let s = sides num ns a.root p.0 n O p.1 p.2 in
    let off : uses a.i O.lower ≡ 0 = omega (arith, ap (λ u. uses a.i u) O.is, p.4) in
    let P = grow_left_parts num lt ns a.root a.i a.rule p.0 n p.1 O p.4 w.new.nodes w.result w.auto.nodes (w.ensures.made O.lower O.below off) (w.ensures.beyond O.lower O.below off) in
    record { parts = (grow lt O.lower a.i a.rule, O.upper, P, omega (arith, (grow_keeps lt O.lower a.i a.rule s.0.balanced).2, s.0.lower, p.3), omega (arith, s.1.lower, p.3)) }

pub balance-requires-else-is_before : goal.balance-requires-else-is_before
balance-requires-else-is_before g t c =
    let num = g.A.AddressKind.num in
    let lt = before num in
    let a = c.args in
    let ns = a.nodes.now in
    let n = c.in_Some-top.top in
    let w = c.insert-right in
    let p = c.requires.tree in
    let O = c.in_Some-top.ensures p.0 p.1 in
    let s = sides num ns a.root p.0 n O p.1 p.2 in
    let off : uses a.i O.upper ≡ 0 = omega (arith, ap (λ u. uses a.i u) O.is, p.4) in
    let P = grow_right_parts num lt ns a.root a.i a.rule p.0 n p.1 O p.4 w.new.nodes w.result w.auto.nodes (w.ensures.made O.upper O.above off) (w.ensures.beyond O.upper O.above off) in
    record { parts = (O.lower, grow lt O.upper a.i a.rule, P, omega (arith, s.0.lower, p.3), omega (arith, (grow_keeps lt O.upper a.i a.rule s.1.balanced).2, s.1.lower, p.3)) }

pub returns-then-is_before : goal.returns-then-is_before
returns-then-is_before g t c =
    let num = g.A.AddressKind.num in
    let lt = before num in
    let a = c.args in
    let ns = a.nodes.now in
    let n = c.in_Some-top.top in
    let w = c.insert-left in
    record {
      made = λ u H off.
          let O = c.in_Some-top.ensures u H in
          let off' : uses a.i O.lower ≡ 0 = omega (arith, ap (λ v. uses a.i v) O.is) in
          let P = grow_left_parts num lt ns a.root a.i a.rule u n H O off w.new.nodes w.result w.auto.nodes (w.ensures.made O.lower O.below off') (w.ensures.beyond O.lower O.below off') in
          subst (λ v. Held num c.balance.new.nodes c.balance.result v) (sym (grow_left_is num lt ns a.root a.i a.rule u n H O off (sym c.if-is_before.ensures))) (c.balance.ensures.made (grow lt O.lower a.i a.rule) O.upper P);
      beyond = λ u H off.
          let O = c.in_Some-top.ensures u H in
          let off' : uses a.i O.lower ≡ 0 = omega (arith, ap (λ v. uses a.i v) O.is) in
          let P = grow_left_parts num lt ns a.root a.i a.rule u n H O off w.new.nodes w.result w.auto.nodes (w.ensures.made O.lower O.below off') (w.ensures.beyond O.lower O.below off') in
          grow_left_beyond num lt ns a.root a.i a.rule u n H O off w.new.nodes c.balance.new.nodes (w.ensures.beyond O.lower O.below off') (c.balance.ensures.beyond (grow lt O.lower a.i a.rule) O.upper P);
    }

pub returns-else-is_before : goal.returns-else-is_before
returns-else-is_before g t c =
    let num = g.A.AddressKind.num in
    let lt = before num in
    let a = c.args in
    let ns = a.nodes.now in
    let n = c.in_Some-top.top in
    let w = c.insert-right in
    record {
      made = λ u H off.
          let O = c.in_Some-top.ensures u H in
          let off' : uses a.i O.upper ≡ 0 = omega (arith, ap (λ v. uses a.i v) O.is) in
          let P = grow_right_parts num lt ns a.root a.i a.rule u n H O off w.new.nodes w.result w.auto.nodes (w.ensures.made O.upper O.above off') (w.ensures.beyond O.upper O.above off') in
          subst (λ v. Held num c.balance-else-is_before.new.nodes c.balance-else-is_before.result v) (sym (grow_right_is num lt ns a.root a.i a.rule u n H O off (sym c.if-is_before.ensures))) (c.balance-else-is_before.ensures.made O.lower (grow lt O.upper a.i a.rule) P);
      beyond = λ u H off.
          let O = c.in_Some-top.ensures u H in
          let off' : uses a.i O.upper ≡ 0 = omega (arith, ap (λ v. uses a.i v) O.is) in
          let P = grow_right_parts num lt ns a.root a.i a.rule u n H O off w.new.nodes w.result w.auto.nodes (w.ensures.made O.upper O.above off') (w.ensures.beyond O.upper O.above off') in
          grow_right_beyond num lt ns a.root a.i a.rule u n H O off w.new.nodes c.balance-else-is_before.new.nodes (w.ensures.beyond O.upper O.above off') (c.balance-else-is_before.ensures.beyond O.lower (grow lt O.upper a.i a.rule) P);
    }
