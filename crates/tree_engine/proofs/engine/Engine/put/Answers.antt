-- A held range has its hop replaced in its node; another gets a free node, and goes in at its place.
use Rattle.std.proofs.Common.{is_some, ap, arith}
use mathlib.Core.Logic.{∥∥₁_elim, ∥∥₁_map}
use native.Mathlib.Bridge.{le_prop}
use base.Stored.{Coded-set}
use Rattle.tree_engine.proofs.Seal.{unseal, spare_off}
use Rattle.tree_engine.proofs.Spares.{free_within, all_used}
use Rattle.tree_engine.proofs.Changes.{amend-rules_at, amend-kept, enter_rules, enter_keeps}
use Rattle.tree_engine.proofs.engine.Engine.put.Goals as goal

pub invariant_of-self : goal.invariant_of-self
invariant_of-self g c =
    let s = c.args.self.now in
    let T = unseal (Coded-set g.row.A.coded) _ _ _ s.kept in
    let P = c.in-Some.ensures.place _ c.tree.ensures.whole in
    let there = ap is_some (c.in-Some.ensures.held _ c.tree.ensures.whole c.tree.ensures.order).0 in
    record { kept = ∥∥₁_map s.kept (λ K. amend-kept _ _ _ s.heads _ _ (record { start = c.args.start; finish = c.args.finish; hop = c.args.hop }) T P.1 P.0 (c.set_hop.ensures.made _ _ T.held) K c.requires.forward there c.set_hop.auto.nodes c.set_hop.ensures.only) }

pub returns-in-Some-clause-after : goal.returns-in-Some-clause-after
returns-in-Some-clause-after g c =
    let s = c.args.self.now in
    let T = unseal (Coded-set g.row.A.coded) _ _ _ s.kept in
    let P = c.in-Some.ensures.place _ c.tree.ensures.whole in
    amend-rules_at _ _ _ s.heads _ _ (record { start = c.args.start; finish = c.args.finish; hop = c.args.hop }) T P.1 P.0 (c.set_hop.ensures.made _ _ T.held)

pub take-node-requires-clause-within : goal.take-node-requires-clause-within
take-node-requires-clause-within g c =
    let s = c.args.self.now in
    (∥∥₁_elim s.kept le_prop (λ K. free_within _ _ _ _ K.shared), ∥∥₁_elim s.kept le_prop (λ K. K.within))

pub take-node-requires-clause-some : goal.take-node-requires-clause-some
take-node-requires-clause-some g c z =
    let room = c.requires.room (ap is_some (c.in_default.ensures.held _ c.tree.ensures.whole c.tree.ensures.order)) in
    ∥∥₁_elim c.args.self.now.kept le_prop (λ K. omega (arith, all_used _ _ c.args.self.now.heads K z, K.counted, room))

pub insert-heads-requires-clause-tree : goal.insert-heads-requires-clause-tree
insert-heads-requires-clause-tree g c =
    let s = c.args.self.now in
    let T = unseal (Coded-set g.row.A.coded) _ _ _ s.kept in
    let N = c.take-node in
    (_, T.held, T.balanced, omega (arith, T.low), spare_off _ _ s.heads _ _ _ N.ensures.within.0 N.ensures.shared s.kept)

pub overflow_add-heads : goal.overflow_add-heads
overflow_add-heads g c =
    let T = unseal (Coded-set g.row.A.coded) _ _ _ c.args.self.now.kept in
    omega (arith, T.counted, c.requires.room (ap is_some (c.in_default.ensures.held _ c.tree.ensures.whole c.tree.ensures.order)))

pub invariant_of-self-2 : goal.invariant_of-self-2
invariant_of-self-2 g c =
    let s = c.args.self.now in
    let T = unseal (Coded-set g.row.A.coded) _ _ _ s.kept in
    let N = c.take-node in
    let I = c.insert-heads in
    let off = spare_off _ _ s.heads _ _ _ N.ensures.within.0 N.ensures.shared s.kept in
    let absent = ap is_some (c.in_default.ensures.held _ c.tree.ensures.whole c.tree.ensures.order) in
    record { kept = ∥∥₁_map s.kept (λ K. enter_keeps _ _ _ s.heads _ _ (record { start = c.args.start; finish = c.args.finish; hop = c.args.hop }) T c.requires.forward absent (I.ensures.made _ T.held off) I.auto.nodes _ _ (N.ensures.shared _ K.shared) N.ensures.within.1.1 (I.ensures.beyond _ T.held off)) }

pub returns-clause-after : goal.returns-clause-after
returns-clause-after g c =
    let s = c.args.self.now in
    let T = unseal (Coded-set g.row.A.coded) _ _ _ s.kept in
    let N = c.take-node in
    let off = spare_off _ _ s.heads _ _ _ N.ensures.within.0 N.ensures.shared s.kept in
    let absent = ap is_some (c.in_default.ensures.held _ c.tree.ensures.whole c.tree.ensures.order) in
    enter_rules _ _ _ s.heads _ _ (record { start = c.args.start; finish = c.args.finish; hop = c.args.hop }) T c.requires.forward absent (c.insert-heads.ensures.made _ T.held off)
