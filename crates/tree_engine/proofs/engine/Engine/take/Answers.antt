-- The rule leaves the tree, and its node goes to the front of the chain.
use Rattle.std.proofs.Common.{◌≤◌, length, is_some, sym, ap, arith}
use mathlib.Core.Logic.{∥∥₁_map}
use base.Stored.{Coded-set}
use Rattle.rules.proofs.Places.{delete_none}
use Rattle.tree.proofs.Held.{link-within}
use Rattle.tree_engine.proofs.Seal.{unseal}
use Rattle.tree_engine.proofs.Changes.{some-rules, leave_rules, leave_kept}
use Rattle.tree_engine.proofs.engine.Engine.take.Goals as goal

pub returns-in_default-clause-after : goal.returns-in_default-clause-after
returns-in_default-clause-after g c = sym (delete_none _ _ _ (ap is_some (c.in_default.ensures.held _ c.tree.ensures.whole c.tree.ensures.order)))

pub remove-heads-requires : goal.remove-heads-requires
remove-heads-requires g c = let T = unseal (Coded-set g.row.A.coded) _ _ _ c.args.self.now.kept in (_, T.held, T.balanced, omega (arith, T.low))

pub overflow_sub-heads : goal.overflow_sub-heads
overflow_sub-heads g c =
    let T = unseal (Coded-set g.row.A.coded) _ _ _ c.args.self.now.kept in
    let there = ap is_some (c.in-Some.ensures.held _ c.tree.ensures.whole c.tree.ensures.order).0 in
    omega (arith, some-rules _ _ _ T.canonical there, T.counted)

pub invariant_of-self : goal.invariant_of-self
invariant_of-self g c =
    let s = c.args.self.now in
    let T = unseal (Coded-set g.row.A.coded) _ _ _ s.kept in
    let P = c.in-Some.ensures.place _ c.tree.ensures.whole in
    let F = c.in-Some.ensures.held _ c.tree.ensures.whole c.tree.ensures.order in
    let within : c.in-Some.held ≤ length s.nodes.now = omega (arith, ap length c.tree.ensures.row, link-within _ _ _ _ F.1.1) in
    let R = c.remove-heads in
    let G = c.give in
    record { kept = ∥∥₁_map s.kept (λ K. leave_kept _ _ _ _ s.heads _ _ (record { start = c.args.start; finish = c.args.finish; hop = 0 }) T R.auto.nodes G.auto.nodes P.1 P.0 (R.ensures.made _ T.held) G.ensures.only K (ap is_some F.0) within (R.ensures.beyond _ T.held) G.ensures.linked _ _ G.ensures.first G.ensures.fresh) }

pub returns-clause-after : goal.returns-clause-after
returns-clause-after g c =
    let T = unseal (Coded-set g.row.A.coded) _ _ _ c.args.self.now.kept in
    let P = c.in-Some.ensures.place _ c.tree.ensures.whole in
    leave_rules _ _ _ _ _ _ _ (record { start = c.args.start; finish = c.args.finish; hop = 0 }) T c.remove-heads.auto.nodes c.give.auto.nodes P.1 P.0 (c.remove-heads.ensures.made _ T.held) c.give.ensures.only
