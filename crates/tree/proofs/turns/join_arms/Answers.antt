-- The step that both double turns share.
use Rattle.std.proofs.Common.{◌∙◌, arith}
use Rattle.tree.specs.Tree.{node}
use Rattle.tree.proofs.Arms.{low_parts, high_parts, top-parts}
use Rattle.tree.proofs.turns.join_arms.Goals as goal

pub join-requires-2 : goal.join-requires-2
join-requires-2 g c =
    let a = c.args in
    let p = c.requires in
    let s = p.5 in
    record { parts = (p.2, p.3, high_parts g.A.AddressKind.num a.nodes.now a.low a.high a.top.node a.top.rule p.0 p.1 p.2 p.3 p.4 c.join.new.nodes c.join.auto.nodes c.join.ensures.only, omega arith, omega arith) }

pub join-requires-3 : goal.join-requires-3
join-requires-3 g c =
    let a = c.args in
    let p = c.requires in
    let s = p.5 in
    let num = g.A.AddressKind.num in
    let L = c.join.ensures.made p.0 p.1 (low_parts num a.nodes.now a.low a.high a.top.node a.top.rule p.0 p.1 p.2 p.3 p.4) in
    let H = c.join-2.ensures.made p.2 p.3 (high_parts num a.nodes.now a.low a.high a.top.node a.top.rule p.0 p.1 p.2 p.3 p.4 c.join.new.nodes c.join.auto.nodes c.join.ensures.only) in
    record {
      parts = (
        node p.0 a.low.node a.low.rule p.1,
        node p.2 a.high.node a.high.rule p.3,
        top-parts num a.nodes.now a.low a.high a.top.node a.top.rule p.0 p.1 p.2 p.3 p.4 c.join.new.nodes c.join.auto.nodes c.join.ensures.only c.join-2.new.nodes c.join-2.auto.nodes c.join-2.ensures.only L H,
        omega arith,
        omega arith,
      );
    }

pub returns : goal.returns
returns g c =
    let a = c.args in
    let num = g.A.AddressKind.num in
    let ns = a.nodes.now in
    record {
      made = λ w x y z S.
          let L = c.join.ensures.made w x (low_parts num ns a.low a.high a.top.node a.top.rule w x y z S) in
          let H = c.join-2.ensures.made y z (high_parts num ns a.low a.high a.top.node a.top.rule w x y z S c.join.new.nodes c.join.auto.nodes c.join.ensures.only) in
          c.join-3.ensures.made (node w a.low.node a.low.rule x) (node y a.high.node a.high.rule z)
          (top-parts num ns a.low a.high a.top.node a.top.rule w x y z S c.join.new.nodes c.join.auto.nodes c.join.ensures.only c.join-2.new.nodes c.join-2.auto.nodes c.join-2.ensures.only L H);
      apart = λ j d z p q t. c.join-3.ensures.only j d z t ∙ c.join-2.ensures.only j d z q ∙ c.join.ensures.only j d z p;
    }
