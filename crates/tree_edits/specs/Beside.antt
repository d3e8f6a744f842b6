-- Two trees side by side in a row of nodes, and the first node of one.
use Rattle.std.specs.Prelude.{◌≡◌, ℕ, ◌+◌, ◌-◌, ◌<◌, ◌≤◌, List, slice_index_or}
use Rattle.rules.specs.declared.rule.Rule.{Rule as Stored}
use Rattle.tree.specs.declared.node.Node.{Node}
use Rattle.tree.specs.Tree.{Tree, RuleTree, leaf, node, uses}
use Rattle.tree.specs.Nodes.{Held}
use Rattle.tree_edits.specs.Edits.{least_or, head_or}

-- m is the first node of the tree and x its rule; it stands in a row of n
abbrev pub LeastAt : {A : Type 0} → ℕ → RuleTree A → ℕ → Stored A → Type 0
LeastAt n leaf m x = ⊥
LeastAt n (node l i y r) m x = (m ≡ least_or i l) × (x ≡ head_or y l) × (0 < m) × (m ≤ n)

-- two trees in places of their own
pub record Beside {A : Type 0} (num : A → ℕ) (ns : List (Node A)) (left right : ℕ) (l r : RuleTree A) : Type 0 where
  pub lower : Held num ns left l
  pub upper : Held num ns right r
  pub apart : (j : ℕ) → uses j l + uses j r ≤ 1

-- every place outside both is as it was
abbrev pub BeyondBoth : {X A : Type 0} → Tree X → Tree X → List (Node A) → List (Node A) → Type 0
BeyondBoth l r ns ms = (j : ℕ) (d : Node _) → 0 < j → uses j l ≡ 0 → uses j r ≡ 0 → slice_index_or ms (j - 1) d ≡ slice_index_or ns (j - 1) d
