-- The turn for a right tree that is too high: once, or twice where its left subtree is the higher one.
use Rattle.std.proofs.Common.{◌≡◌, ◌+◌, max, sym, ap, subst, arith}
use Rattle.tree.specs.Tree.{height, node}
use Rattle.tree.specs.Nodes.{Held}
use Rattle.tree.proofs.Held.{tall_link}
use Rattle.tree.proofs.Arms.{left-parts, left_over, left_is, left_beyond, left-arms, left-twice-is, left-twice-beyond}
use Rattle.tree.proofs.turns.turn_left.Goals as goal

pub height_at-outer-requires : goal.height_at-outer-requires
height_at-outer-requires g c = let p = c.requires.parts in let O = c.at-n.ensures p.1 p.2.upper in ∣ (O.upper, O.above) ∣₁

pub at-m-requires : goal.at-m-requires
at-m-requires g c =
    let num = g.A.AddressKind.num in
    let ns = c.args.nodes.now in
    let p = c.requires.parts in
    let O = c.at-n.ensures p.1 p.2.upper in
    let ha : c.height_at-inner.result ≡ height O.lower = c.height_at-inner.ensures O.lower O.below in
    let hb : c.height_at-outer.result ≡ height O.upper = c.height_at-outer.ensures O.upper O.above in
    record { some = tall_link num ns c.at-n.result.left O.lower O.below (omega (arith, c.if-outer-inner.true)); held = (O.lower, O.below) }

pub join_arms-requires : goal.join_arms-requires
join_arms-requires g c =
    let num = g.A.AddressKind.num in
    let a = c.args.top in
    let ns = c.args.nodes.now in
    let p = c.requires.parts in
    let O = c.at-n.ensures p.1 p.2.upper in
    let ho : height p.1 ≡ max (height O.lower) (height O.upper) + 1 = ap height O.is in
    let Q = c.at-m.ensures O.lower O.below in
    let hq : height O.lower ≡ max (height Q.lower) (height Q.upper) + 1 = ap height Q.is in
    (p.0, Q.lower, Q.upper, O.upper, left-arms num ns a.node a.left a.right a.rule p.0 p.1 c.at-n.result p.2 O c.at-m.result Q, (omega arith, omega arith, omega arith, omega arith))

pub join-requires : goal.join-requires
join-requires g c =
    let a = c.args.top in
    let num = g.A.AddressKind.num in
    let ns = c.args.nodes.now in
    let p = c.requires.parts in
    let O = c.at-n.ensures p.1 p.2.upper in
    let ho : height p.1 ≡ max (height O.lower) (height O.upper) + 1 = ap height O.is in
    record { parts = (p.0, O.lower, left-parts num ns a.node a.left a.right a.rule p.0 p.1 c.at-n.result p.2 O, omega arith, omega arith) }

pub join-requires-else-outer-inner : goal.join-requires-else-outer-inner
join-requires-else-outer-inner g c =
    let a = c.args.top in
    let num = g.A.AddressKind.num in
    let ns = c.args.nodes.now in
    let p = c.requires.parts in
    let O = c.at-n.ensures p.1 p.2.upper in
    let ho : height p.1 ≡ max (height O.lower) (height O.upper) + 1 = ap height O.is in
    let J = c.join.ensures.made p.0 O.lower (left-parts num ns a.node a.left a.right a.rule p.0 p.1 c.at-n.result p.2 O) in
    record { parts = (node p.0 a.node a.rule O.lower, O.upper, left_over num ns a.node a.left a.right a.rule p.0 p.1 c.at-n.result p.2 O c.join.new.nodes c.join.auto.nodes c.join.ensures.only J, omega arith, omega arith) }

pub returns-then-outer-inner : goal.returns-then-outer-inner
returns-then-outer-inner g c =
    let num = g.A.AddressKind.num in
    let a = c.args.top in
    let ns = c.args.nodes.now in
    record {
      made = λ l r P.
          let O = c.at-n.ensures r P.upper in
          let ha : c.height_at-inner.result ≡ height O.lower = c.height_at-inner.ensures O.lower O.below in
          let hb : c.height_at-outer.result ≡ height O.upper = c.height_at-outer.ensures O.upper O.above in
          let Q = c.at-m.ensures O.lower O.below in
          subst (λ t. Held num c.join_arms.new.nodes c.at-m.result.node t) (sym (left-twice-is num ns a.node a.left a.right a.rule l r c.at-n.result P O c.at-m.result Q (omega (arith, c.if-outer-inner.true))))
          (c.join_arms.ensures.made l Q.lower Q.upper O.upper (left-arms num ns a.node a.left a.right a.rule l r c.at-n.result P O c.at-m.result Q));
      beyond = λ l r P.
          let O = c.at-n.ensures r P.upper in
          let Q = c.at-m.ensures O.lower O.below in
          left-twice-beyond num ns a.node a.left a.right a.rule l r c.at-n.result P O c.at-m.result Q c.join_arms.new.nodes c.join_arms.ensures.apart;
    }

pub returns-else-outer-inner : goal.returns-else-outer-inner
returns-else-outer-inner g c =
    let num = g.A.AddressKind.num in
    let a = c.args.top in
    let ns = c.args.nodes.now in
    record {
      made = λ l r P.
          let O = c.at-n.ensures r P.upper in
          let ha : c.height_at-inner.result ≡ height O.lower = c.height_at-inner.ensures O.lower O.below in
          let hb : c.height_at-outer.result ≡ height O.upper = c.height_at-outer.ensures O.upper O.above in
          let J = c.join.ensures.made l O.lower (left-parts num ns a.node a.left a.right a.rule l r c.at-n.result P O) in
          subst (λ t. Held num c.join-else-outer-inner.new.nodes c.at-n.result.node t) (sym (left_is num ns a.node a.left a.right a.rule l r c.at-n.result P O (omega (arith, c.if-outer-inner.false))))
          (c.join-else-outer-inner.ensures.made (node l a.node a.rule O.lower) O.upper (left_over num ns a.node a.left a.right a.rule l r c.at-n.result P O c.join.new.nodes c.join.auto.nodes c.join.ensures.only J));
      beyond = λ l r P.
          let O = c.at-n.ensures r P.upper in
          left_beyond num ns a.node a.left a.right a.rule l r c.at-n.result P O c.join.new.nodes c.join-else-outer-inner.new.nodes c.join.ensures.only c.join-else-outer-inner.ensures.only;
    }
