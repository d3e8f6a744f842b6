-- What comes out of the truncated invariant: everything but the chain has one proof at most.
use Rattle.std.proofs.Common.{◌≡◌, ℕ, ◌+◌, ◌<◌, ◌≤◌, cond, eqb, List, length, arith}
use mathlib.Core.Bool.{Bool-set}
use mathlib.Core.Logic.{∥∥₁_elim}
use native.Mathlib.Nat.{ℕ_set}
use native.Mathlib.Bridge.{le_prop}
use Rattle.rules.specs.Rules.{Canonical}
use Rattle.rules.proofs.Places.{ordered_decides}
use Rattle.tree.specs.declared.node.Node.{Node}
use Rattle.tree.specs.Tree.{Tree, RuleTree, leaf, node, height, uses, Balanced}
use Rattle.tree.specs.Nodes.{Holds, Held, whole}
use Rattle.tree_engine.specs.declared.engine.Heads.{Heads}
use Rattle.tree_engine.specs.Kept.{Shared, Kept, rules_at}
use Rattle.rules.specs.Answers.{capped}
use Rattle.tree_engine.proofs.Spares.{low, few, taken_off}

-- the rules are in canonical order, and there is room for them
pub order-sealed : {A : Type 0} (num : A → ℕ) (ns : List (Node A)) (h : Heads) → ∥ Kept num ns h ∥₁ → Canonical (rules_at num ns h)
order-sealed num ns h s = (ordered_decides (rules_at num ns h)).0 (∥∥₁_elim s (Bool-set _ _) (λ K. K.order))

pub room-sealed : {A : Type 0} (num : A → ℕ) (ns : List (Node A)) (h : Heads) → ∥ Kept num ns h ∥₁ → length (rules_at num ns h) ≤ capped (length ns)
room-sealed num ns h s = ∥∥₁_elim s le_prop (λ K. omega (arith, few num ns h K, K.counted, K.within))

-- what else a kept tree is
pub record Stands {A : Type 0} (num : A → ℕ) (ns : List (Node A)) (h : Heads) : Type 0 where
  pub held : Held num ns h.root (whole ns h.root)
  pub balanced : Balanced (whole ns h.root)
  pub canonical : Canonical (rules_at num ns h)
  pub counted : length (rules_at num ns h) ≡ h.count
  pub low : height (whole ns h.root) < 63

balanced_prop : {X : Type 0} (t : Tree X) → IsProp (Balanced t)
balanced_prop leaf = hlevel
balanced_prop (node l i a r) = hlevel (le_prop, balanced_prop l, balanced_prop r)

module _ {A : Type 0} (S : IsSet A) where
  node-set : IsSet (Node A)
  node-set = hlevel (S, ℕ_set)

  holds_prop : (num : A → ℕ) (ns : List (Node A)) (t : RuleTree A) → IsProp (Holds num ns t)
  holds_prop num ns leaf = hlevel
  holds_prop num ns (node l i a r) = hlevel (le_prop, node-set, holds_prop num ns l, holds_prop num ns r)

  held_prop : (num : A → ℕ) (ns : List (Node A)) (m : ℕ) (t : RuleTree A) → IsProp (Held num ns m t)
  held_prop num ns m t = hlevel (ℕ_set, le_prop, holds_prop num ns t)

  pub unseal : (num : A → ℕ) (ns : List (Node A)) (h : Heads) → ∥ Kept num ns h ∥₁ → Stands num ns h
  unseal num ns h s =
      record {
        held = ∥∥₁_elim s (held_prop num ns h.root (whole ns h.root)) (λ K. K.held);
        balanced = ∥∥₁_elim s (balanced_prop (whole ns h.root)) (λ K. K.balanced);
        canonical = order-sealed num ns h s;
        counted = ∥∥₁_elim s (ℕ_set _ _) (λ K. K.counted);
        low = ∥∥₁_elim s le_prop (low num ns h);
      }

-- a spare node that is taken is not in use
pub spare_off : {A : Type 0} (num : A → ℕ) (ns : List (Node A)) (h : Heads) (i free fresh : ℕ) → 0 < i
    → ((u : ℕ → ℕ) → Shared ns u h.spares.free h.spares.fresh → Shared ns (λ j. u j + cond (eqb i j) 1 0) free fresh) → ∥ Kept num ns h ∥₁ → uses i (whole ns h.root) ≡ 0
spare_off num ns h i free fresh p f s = ∥∥₁_elim s (ℕ_set _ _) (λ K. taken_off ns (λ j. uses j (whole ns h.root)) i free fresh p (f (λ j. uses j (whole ns h.root)) K.shared))
