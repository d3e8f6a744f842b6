-- The trees to both sides of a node, of whichever tree stands behind the link.
use Rattle.std.proofs.Common.{ℕ, ◌<◌, List}
use mathlib.Core.Logic.{∥∥₁_elim, ∥∥₁_prop}
use native.Mathlib.Bridge.{le_prop}
use Rattle.tree.specs.declared.node.Node.{Node}
use Rattle.tree.specs.Tree.{RuleTree}
use Rattle.tree.specs.Nodes.{Held, Shows, stored_height}
use Rattle.tree.proofs.Held.{parted}
use Rattle.tree.proofs.Heights.{stored_falls}

module _ {A : Type 0} (num : A → ℕ) (ns : List (Node A)) (k : ℕ) (n : Node A) where
  module _ (some : ∥ ((t : RuleTree A) × Held num ns k t) ∥₁) (shows : (t : RuleTree A) → Held num ns k t → Shows num t k n) where
    pub some_below : ∥ ((t : RuleTree A) × Held num ns n.left t) ∥₁
    some_below = ∥∥₁_elim some ∥∥₁_prop (λ w. let P = parted num ns k n w.0 w.1 (shows w.0 w.1) in ∣ (P.lower, P.below) ∣₁)

    pub some_above : ∥ ((t : RuleTree A) × Held num ns n.right t) ∥₁
    some_above = ∥∥₁_elim some ∥∥₁_prop (λ w. let P = parted num ns k n w.0 w.1 (shows w.0 w.1) in ∣ (P.upper, P.above) ∣₁)

    falls : (t : RuleTree A) → Held num ns k t → (stored_height ns n.left < stored_height ns k) × (stored_height ns n.right < stored_height ns k)
    falls t H = let P = parted num ns k n t H (shows t H) in stored_falls num ns k n.left n.right P.is H P.below P.above

    pub both_fall : (stored_height ns n.left < stored_height ns k) × (stored_height ns n.right < stored_height ns k)
    both_fall = (∥∥₁_elim some le_prop (λ w. (falls w.0 w.1).0), ∥∥₁_elim some le_prop (λ w. (falls w.0 w.1).1))
