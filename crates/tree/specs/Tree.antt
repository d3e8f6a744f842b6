-- Trees of rules, and what the turns make of them.
use Rattle.std.specs.Prelude.{ℕ, ◌+◌, ◌≤◌, max, Bool, cond, List, [], ◌∷◌, ◌++◌, ◌==◌, nat_lt}
use Rattle.rules.specs.declared.rule.Rule.{Rule as Stored}
use Rattle.rules.specs.Rules.{Rule, earlier}
use Rattle.rules.specs.Answers.{numbered}

-- A binary tree. Each node has a number, its place in the row plus one, so that 0 is no node's.
pub data Tree (X : Type 0) : Type 0 where
  leaf : Tree X
  node : Tree X → ℕ → X → Tree X → Tree X

abbrev pub RuleTree : Type 0 → Type 0
RuleTree A = Tree (Stored A)

-- the link to a tree: its root's number, and 0 for none
abbrev pub link : {X : Type 0} → Tree X → ℕ
link leaf = 0
link (node l i x r) = i

abbrev pub height : {X : Type 0} → Tree X → ℕ
height leaf = 0
height (node l i x r) = max (height l) (height r) + 1

abbrev pub size : {X : Type 0} → Tree X → ℕ
size leaf = 0
size (node l i x r) = size l + size r + 1

-- how often the number j is used
abbrev pub uses : {X : Type 0} → ℕ → Tree X → ℕ
uses j leaf = 0
uses j (node l i x r) = uses j l + uses j r + cond (i == j) 1 0

-- the rules from left to right, by numbers
abbrev pub rules_in : {A : Type 0} → (A → ℕ) → RuleTree A → List Rule
rules_in num leaf = []
rules_in num (node l i x r) = rules_in num l ++ (numbered num x ∷ rules_in num r)

-- the heights of two siblings differ by one at most
abbrev pub Balanced : {X : Type 0} → Tree X → Type 0
Balanced leaf = Unit {0}
Balanced (node l i x r) = (height l ≤ height r + 1) × (height r ≤ height l + 1) × Balanced l × Balanced r

-- the order of stored rules
abbrev pub before : {A : Type 0} → (A → ℕ) → Stored A → Stored A → Bool
before num x y = earlier (numbered num x) (numbered num y)

-- the left tree is the higher one: its root comes up, or its right subtree's root where that is higher
abbrev pub double_right : {X : Type 0} → Tree X → ℕ → X → Tree X → ℕ → X → Tree X → Tree X
double_right a j y leaf i x r = node (node a j y leaf) i x r
double_right a j y (node b m z c) i x r = node (node a j y b) m z (node c i x r)

abbrev pub turn_right : {X : Type 0} → Tree X → ℕ → X → Tree X → Tree X
turn_right leaf i x r = node leaf i x r
turn_right (node a j y b) i x r = cond (nat_lt (height a) (height b)) (double_right a j y b i x r) (node a j y (node b i x r))

-- the same with left and right exchanged
abbrev pub double_left : {X : Type 0} → Tree X → ℕ → X → Tree X → ℕ → X → Tree X → Tree X
double_left l i x leaf j y b = node l i x (node leaf j y b)
double_left l i x (node a m z c) j y b = node (node l i x a) m z (node c j y b)

abbrev pub turn_left : {X : Type 0} → Tree X → ℕ → X → Tree X → Tree X
turn_left l i x leaf = node l i x leaf
turn_left l i x (node a j y b) = cond (nat_lt (height b) (height a)) (double_left l i x a j y b) (node (node l i x a) j y b)

-- a node over two trees, with a turn where one is higher by two
abbrev pub balance : {X : Type 0} → Tree X → ℕ → X → Tree X → Tree X
balance l i x r =
    cond (nat_lt (height r + 1) (height l)) (turn_right l i x r)
    (cond (nat_lt (height l + 1) (height r)) (turn_left l i x r) (node l i x r))

-- the node whose element stands where x does in the order lt; 0 if there is none
abbrev pub look : {X : Type 0} → (X → X → Bool) → X → Tree X → ℕ
look lt x leaf = 0
look lt x (node l i y r) = cond (lt x y) (look lt x l) (cond (lt y x) (look lt x r) i)
