-- Trees as they stand in a row of nodes.
use Rattle.std.specs.Prelude.{◌≡◌, ℕ, zero, suc, ◌+◌, ◌-◌, ◌<◌, ◌≤◌, max, cond, List, [], ◌∷◌, map, length, drop, ◌==◌, ◌≢◌, nat_lt, slice_index, slice_index_or}
use Rattle.rules.specs.declared.rule.Rule.{Rule as Stored}
use Rattle.tree.specs.declared.node.Node.{Node}
use Rattle.tree.specs.declared.node.Branch.{Branch}
use Rattle.tree.specs.Tree.{Tree, RuleTree, leaf, node, link, height, uses}

-- a node to fill a row with
abbrev pub blank_node : {A : Type 0} → A → Node A
blank_node x = record { rule = record { start = x; finish = x; hop = 0 }; low = x; left = 0; right = 0; height = 0 }

-- the lesser of two addresses, the first where they are equal
abbrev pub lesser : {A : Type 0} → (A → ℕ) → A → A → A
lesser num x y = cond (nat_lt (num y) (num x)) y x

-- the least of a tree's starts and a further address
abbrev pub low_with : {A : Type 0} → (A → ℕ) → RuleTree A → A → A
low_with num leaf y = y
low_with num (node l i x r) y = lesser num (low_with num l (low_with num r x.start)) y

-- what stands in the place of a node
abbrev pub cell : {A : Type 0} → (A → ℕ) → RuleTree A → Stored A → RuleTree A → Node A
cell num l x r = record { rule = x; low = low_with num l (low_with num r x.start); left = link l; right = link r; height = max (height l) (height r) + 1 }

-- each node of the tree stands in its place
abbrev pub Holds : {A : Type 0} → (A → ℕ) → List (Node A) → RuleTree A → Type 0
Holds num ns leaf = Unit {0}
Holds num ns (node l i x r) = (0 < i) × (i ≤ length ns) × ((d : Node _) → slice_index_or ns (i - 1) d ≡ cell num l x r) × Holds num ns l × Holds num ns r

-- the row holds the tree t behind the link k, each node in a place of its own
pub record Held {A : Type 0} (num : A → ℕ) (ns : List (Node A)) (k : ℕ) (t : RuleTree A) : Type 0 where
  pub here : link t ≡ k
  pub holds : Holds num ns t
  pub apart : (j : ℕ) → uses j t ≤ 1

-- what is read behind a link
abbrev pub Shows : {A : Type 0} → (A → ℕ) → RuleTree A → ℕ → Node A → Type 0
Shows num leaf k n = ⊥
Shows num (node l i x r) k n = (k ≡ i) × (n ≡ cell num l x r)

-- a tree behind a link that is not 0, with the node that stands there
pub record Opened {A : Type 0} (num : A → ℕ) (ns : List (Node A)) (k : ℕ) (t : RuleTree A) (n : Branch A) : Type 0 where
  pub lower : RuleTree A
  pub upper : RuleTree A
  pub here : n.node ≡ k
  pub is : t ≡ node lower n.node n.rule upper
  pub below : Held num ns n.left lower
  pub above : Held num ns n.right upper
  pub some : 0 < n.node
  pub within : n.node ≤ length ns

-- a tree whose top is the node n behind the link k, with what holds of its left and of its right tree
pub record Parted {A : Type 0} (num : A → ℕ) (t : RuleTree A) (k : ℕ) (n : Node A) (left right : RuleTree A → Type 0) : Type 0 where
  pub lower : RuleTree A
  pub upper : RuleTree A
  pub is : t ≡ node lower k n.rule upper
  pub some : 0 < k
  pub low : n.low ≡ low_with num lower (low_with num upper n.rule.start)
  pub below : left lower
  pub above : right upper

-- what a node i is made of: two trees and a place, all apart
pub record Parts {A : Type 0} (num : A → ℕ) (ns : List (Node A)) (i left right : ℕ) (l r : RuleTree A) : Type 0 where
  pub lower : Held num ns left l
  pub upper : Held num ns right r
  pub apart : (j : ℕ) → uses j l + uses j r + cond (i == j) 1 0 ≤ 1
  pub some : 0 < i
  pub within : i ≤ length ns

-- every place but that of i is as it was
abbrev pub Only : {A : Type 0} → ℕ → List (Node A) → List (Node A) → Type 0
Only i ns ms = (j : ℕ) (d : Node _) → 0 < j → (j ≢ i) → slice_index_or ms (j - 1) d ≡ slice_index_or ns (j - 1) d

-- every place outside the tree is as it was
abbrev pub Beyond : {X : Type 0} {A : Type 0} → Tree X → List (Node A) → List (Node A) → Type 0
Beyond t ns ms = (j : ℕ) (d : Node _) → 0 < j → uses j t ≡ 0 → slice_index_or ms (j - 1) d ≡ slice_index_or ns (j - 1) d

-- the height that stands behind a link
abbrev pub stored_height : {A : Type 0} → List (Node A) → ℕ → ℕ
stored_height ns k = cond (k == 0) 0 (slice_index (map (λ (n : Node _). n.height) ns) (k - 1))

-- the tree of the first node of a list, with what stands below it
abbrev pub over : {A : Type 0} → List (Node A) → (ℕ → RuleTree A) → ℕ → RuleTree A
over [] below k = leaf
over (n ∷ ns) below k = node (below n.left) k n.rule (below n.right)

-- the tree behind a link, read to a depth
abbrev pub read : {A : Type 0} → ℕ → List (Node A) → ℕ → RuleTree A
read zero ns k = leaf
read (suc f) ns k = cond (k == 0) leaf (over (drop (k - 1) ns) (λ j. read f ns j) k)

-- the tree behind a link; no tree in 65,535 places is deeper than that
unfoldable pub whole : {A : Type 0} → List (Node A) → ℕ → RuleTree A
whole ns k = read 64 ns k
