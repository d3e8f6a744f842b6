-- What the edits make of a tree.
use Rattle.std.specs.Prelude.{ℕ, Bool, cond, ◌==◌}
use Rattle.rules.specs.declared.rule.Rule.{Rule as Stored}
use Rattle.tree.specs.Tree.{Tree, RuleTree, leaf, node, balance}

-- x enters, as node k, at its place in the order lt
abbrev pub grow : {X : Type 0} → (X → X → Bool) → Tree X → ℕ → X → Tree X
grow lt leaf k x = node leaf k x leaf
grow lt (node l i y r) k x = cond (lt x y) (balance (grow lt l k x) i y r) (balance l i y (grow lt r k x))

-- the first node's number and element, and the tree without it
abbrev pub least_or : {X : Type 0} → ℕ → Tree X → ℕ
least_or k leaf = k
least_or k (node l i x r) = least_or i l

abbrev pub head_or : {X : Type 0} → X → Tree X → X
head_or x leaf = x
head_or x (node l i y r) = head_or y l

abbrev pub rest_of : {X : Type 0} → Tree X → Tree X → ℕ → X → Tree X → Tree X
rest_of leaf w i x r = r
rest_of (node a j y b) w i x r = balance w i x r

abbrev pub without : {X : Type 0} → Tree X → Tree X
without leaf = leaf
without (node l i x r) = rest_of l (without l) i x r

-- two trees joined by the first node of the second
abbrev pub merge : {X : Type 0} → Tree X → Tree X → Tree X
merge l leaf = l
merge l (node a j y b) = balance l (least_or j a) (head_or y a) (without (node a j y b))

-- what stands where x does in the order leaves
abbrev pub prune : {X : Type 0} → (X → X → Bool) → X → Tree X → Tree X
prune lt x leaf = leaf
prune lt x (node l i y r) = cond (lt x y) (balance (prune lt x l) i y r) (cond (lt y x) (balance l i y (prune lt x r)) (merge l r))

abbrev pub with_hop : {A : Type 0} → Stored A → ℕ → Stored A
with_hop x h = record { start = x.start; finish = x.finish; hop = h }

-- the rule of node k gets the hop h
abbrev pub amend : {A : Type 0} → ℕ → ℕ → RuleTree A → RuleTree A
amend k h leaf = leaf
amend k h (node l i x r) = node (amend k h l) i (cond (i == k) (with_hop x h) x) (amend k h r)
