-- Two nodes with one over them, as both double turns make them.
use Rattle.std.specs.Prelude.{◌≡◌, ℕ, ◌+◌, ◌-◌, ◌<◌, ◌≤◌, cond, List, length, ◌==◌, ◌≢◌, slice_index_or}
use Rattle.tree.specs.declared.node.Node.{Node}
use Rattle.tree.specs.declared.node.Branch.{Branch}
use Rattle.tree.specs.Tree.{Tree, RuleTree, height, uses}
use Rattle.tree.specs.Nodes.{Held}

-- four trees and three places, all apart
pub record Arms {A : Type 0} (num : A → ℕ) (ns : List (Node A)) (low high : Branch A) (top : ℕ) (a b c d : RuleTree A) : Type 0 where
  pub low_left : Held num ns low.left a
  pub low_right : Held num ns low.right b
  pub high_left : Held num ns high.left c
  pub high_right : Held num ns high.right d
  pub apart : (j : ℕ) → uses j a + uses j b + uses j c + uses j d + cond (low.node == j) 1 0 + cond (high.node == j) 1 0 + cond (top == j) 1 0 ≤ 1
  pub some : (0 < low.node) × (0 < high.node) × (0 < top)
  pub within : (low.node ≤ length ns) × (high.node ≤ length ns) × (top ≤ length ns)

-- heights that leave room in a byte
abbrev pub Short : {X : Type 0} → Tree X → Tree X → Tree X → Tree X → Type 0
Short a b c d = (height a < 250) × (height b < 250) × (height c < 250) × (height d < 250)

-- every place but three is as it was
abbrev pub Apart : {A : Type 0} → ℕ → ℕ → ℕ → List (Node A) → List (Node A) → Type 0
Apart p q t ns ms = (j : ℕ) (d : Node _) → 0 < j → (j ≢ p) → (j ≢ q) → (j ≢ t) → slice_index_or ms (j - 1) d ≡ slice_index_or ns (j - 1) d
