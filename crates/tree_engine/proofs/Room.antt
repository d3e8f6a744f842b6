-- How many numbers a tree uses.
use Rattle.std.proofs.Common.{◌≡◌, ℕ, zero, suc, ◌+◌, ◌<◌, ◌≤◌, min, cond, eqb, leb, List, length, refl, ◌∙◌, arith, length-append}
use Rattle.std.proofs.lemmas.Bool.Decides.{nat_tests}
use Rattle.tree.specs.declared.node.Node.{Node}
use Rattle.tree.specs.Tree.{Tree, RuleTree, leaf, node, size, uses, rules_in}
use Rattle.tree.specs.Nodes.{Holds}

pub rules-size : {A : Type 0} (num : A → ℕ) (t : RuleTree A) → length (rules_in num t) ≡ size t
rules-size num leaf = refl
rules-size num (node l i x r) = length-append (rules_in num l) _ ∙ omega (arith, rules-size num l, rules-size num r)

-- how many of the numbers from 1 to n are i, and how many the tree uses
ones : ℕ → ℕ → ℕ
ones zero i = 0
ones (suc n) i = ones n i + cond (eqb i (suc n)) 1 0

unfoldable pub total : {X : Type 0} → ℕ → Tree X → ℕ
total zero t = 0
total (suc n) t = total n t + uses (suc n) t

ones_past : (n i : ℕ) → n < i → ones n i ≡ 0
unfolding ones
ones_past zero i h = refl
ones_past (suc n) i h = grind (arith, nat_tests, ones_past n i)

ones_is : (n i : ℕ) → 0 < i → i ≤ n → ones n i ≡ 1
unfolding ones
ones_is zero i p h = absurd (omega arith)
ones_is (suc n) i p h = grind (arith, nat_tests, ones_is n i, ones_past n i)

total_leaf : (X : Type 0) (n : ℕ) → total {X = X} n leaf ≡ 0
unfolding total
total_leaf X zero = refl
total_leaf X (suc n) = omega (arith, total_leaf X n)

total_node : {X : Type 0} (n : ℕ) (l : Tree X) (i : ℕ) (x : X) (r : Tree X) → total n (node l i x r) ≡ total n l + total n r + ones n i
unfolding total ones
total_node zero l i x r = refl
total_node (suc n) l i x r = omega (arith, total_node n l i x r)

-- a tree uses as many numbers as it has rules
pub total_size : {A : Type 0} (num : A → ℕ) (ns : List (Node A)) (t : RuleTree A) → Holds num ns t → total (length ns) t ≡ size t
total_size num ns leaf H = total_leaf _ (length ns)
total_size num ns (node l i x r) (p, w, c, L, R) = total_node (length ns) l i x r ∙ omega (arith, total_size num ns l L, total_size num ns r R, ones_is (length ns) i p w)

-- where the tree uses the numbers up to a mark, or some of them
pub total_marks : {X : Type 0} (n fresh : ℕ) (t : Tree X) → ((j : ℕ) → 0 < j → uses j t ≡ cond (leb j fresh) 1 0) → total n t ≡ min n fresh
unfolding total
total_marks zero fresh t H = omega arith
total_marks (suc n) fresh t H = grind (arith, nat_tests, total_marks n fresh t H, H (suc n))

pub total_below : {X : Type 0} (n fresh : ℕ) (t : Tree X) → ((j : ℕ) → 0 < j → uses j t ≤ cond (leb j fresh) 1 0) → total n t ≤ min n fresh
unfolding total
total_below zero fresh t H = omega arith
total_below (suc n) fresh t H = grind (arith, nat_tests, total_below n fresh t H, H (suc n))
