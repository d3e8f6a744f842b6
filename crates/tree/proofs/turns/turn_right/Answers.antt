-- The turn for a left tree that is too high: once, or twice where its right subtree is the higher one.
use Rattle.std.proofs.Common.{◌≡◌, ◌+◌, max, sym, ap, subst, arith}
use Rattle.tree.specs.Tree.{height, node}
use Rattle.tree.specs.Nodes.{Held}
use Rattle.tree.proofs.Held.{tall_link}
use Rattle.tree.proofs.Arms.{right_parts, right_over, right_is, right_beyond, right-arms, right-twice-is, right-twice-beyond}
use Rattle.tree.proofs.turns.turn_right.Goals as goal

pub height_at-inner-requires : goal.height_at-inner-requires
height_at-inner-requires g c = let p = c.requires.parts in let O = c.at-n.ensures p.0 p.2.lower in ∣ (O.upper, O.above) ∣₁

pub at-m-requires : goal.at-m-requires
at-m-requires g c =
    let num = g.A.AddressKind.num in
    let ns = c.args.nodes.now in
    let p = c.requires.parts in
    let O = c.at-n.ensures p.0 p.2.lower in
    let ha : c.height_at-outer.result ≡ height O.lower = c.height_at-outer.ensures O.lower O.below in
    let hb : c.height_at-inner.result ≡ height O.upper = c.height_at-inner.ensures O.upper O.above in
    record { some = tall_link num ns c.at-n.result.right O.upper O.above (omega (arith, c.if-outer-inner.true)); held = (O.upper, O.above) }

pub join_arms-requires : goal.join_arms-requires
join_arms-requires g c =
    let num = g.A.AddressKind.num in
    let a = c.args.top in
    let ns = c.args.nodes.now in
    let p = c.requires.parts in
    let O = c.at-n.ensures p.0 p.2.lower in
    let ho : height p.0 ≡ max (height O.lower) (height O.upper) + 1 = ap height O.is in
    let Q = c.at-m.ensures O.upper O.above in
    let hq : height O.upper ≡ max (height Q.lower) (height Q.upper) + 1 = ap height Q.is in
    (O.lower, Q.lower, Q.upper, p.1, right-arms num ns a.node a.left a.right a.rule p.0 p.1 c.at-n.result p.2 O c.at-m.result Q, (omega arith, omega arith, omega arith, omega arith))

pub join-requires : goal.join-requires
join-requires g c =
    let a = c.args.top in
    let num = g.A.AddressKind.num in
    let ns = c.args.nodes.now in
    let p = c.requires.parts in
    let O = c.at-n.ensures p.0 p.2.lower in
    let ho : height p.0 ≡ max (height O.lower) (height O.upper) + 1 = ap height O.is in
    record { parts = (O.upper, p.1, right_parts num ns a.node a.left a.right a.rule p.0 p.1 c.at-n.result p.2 O, omega arith, omega arith) }

pub join-requires-else-outer-inner : goal.join-requires-else-outer-inner
join-requires-else-outer-inner g c =
    let a = c.args.top in
    let num = g.A.AddressKind.num in
    let ns = c.args.nodes.now in
    let p = c.requires.parts in
    let O = c.at-n.ensures p.0 p.2.lower in
    let ho : height p.0 ≡ max (height O.lower) (height O.upper) + 1 = ap height O.is in
    let J = c.join.ensures.made O.upper p.1 (right_parts num ns a.node a.left a.right a.rule p.0 p.1 c.at-n.result p.2 O) in
    record { parts = (O.lower, node O.upper a.node a.rule p.1, right_over num ns a.node a.left a.right a.rule p.0 p.1 c.at-n.result p.2 O c.join.new.nodes c.join.auto.nodes c.join.ensures.only J, omega arith, omega arith) }

pub returns-then-outer-inner : goal.returns-then-outer-inner
returns-then-outer-inner g c =
    let num = g.A.AddressKind.num in
    let a = c.args.top in
    let ns = c.args.nodes.now in
    record {
      made = λ l r P.
          let O = c.at-n.ensures l P.lower in
          let ha : c.height_at-outer.result ≡ height O.lower = c.height_at-outer.ensures O.lower O.below in
          let hb : c.height_at-inner.result ≡ height O.upper = c.height_at-inner.ensures O.upper O.above in
          let Q = c.at-m.ensures O.upper O.above in
          subst (λ t. Held num c.join_arms.new.nodes c.at-m.result.node t) (sym (right-twice-is num ns a.node a.left a.right a.rule l r c.at-n.result P O c.at-m.result Q (omega (arith, c.if-outer-inner.true))))
          (c.join_arms.ensures.made O.lower Q.lower Q.upper r (right-arms num ns a.node a.left a.right a.rule l r c.at-n.result P O c.at-m.result Q));
      beyond = λ l r P.
          let O = c.at-n.ensures l P.lower in
          let Q = c.at-m.ensures O.upper O.above in
          right-twice-beyond num ns a.node a.left a.right a.rule l r c.at-n.result P O c.at-m.result Q c.join_arms.new.nodes c.join_arms.ensures.apart;
    }

pub returns-else-outer-inner : goal.returns-else-outer-inner
returns-else-outer-inner g c =
    let num = g.A.AddressKind.num in
    let a = c.args.top in
    let ns = c.args.nodes.now in
    record {
      made = λ l r P.
          let O = c.at-n.ensures l P.lower in
          let ha : c.height_at-outer.result ≡ height O.lower = c.height_at-outer.ensures O.lower O.below in
          let hb : c.height_at-inner.result ≡ height O.upper = c.height_at-inner.ensures O.upper O.above in
          let J = c.join.ensures.made O.upper r (right_parts num ns a.node a.left a.right a.rule l r c.at-n.result P O) in
          subst (λ t. Held num c.join-else-outer-inner.new.nodes c.at-n.result.node t) (sym (right_is num ns a.node a.left a.right a.rule l r c.at-n.result P O (omega (arith, c.if-outer-inner.false))))
          (c.join-else-outer-inner.ensures.made O.lower (node O.upper a.node a.rule r) (right_over num ns a.node a.left a.right a.rule l r c.at-n.result P O c.join.new.nodes c.join.auto.nodes c.join.ensures.only J));
      beyond = λ l r P.
          let O = c.at-n.ensures l P.lower in
          right_beyond num ns a.node a.left a.right a.rule l r c.at-n.result P O c.join.new.nodes c.join-else-outer-inner.new.nodes c.join.ensures.only c.join-else-outer-inner.ensures.only;
    }
