-- A removal on trees alone: the balance, the numbers and the rules.
use Rattle.std.proofs.Common.{◌≡◌, ℕ, ◌+◌, ◌<◌, ◌≤◌, max, Bool, true, false, cond, eqb, ◌∷◌, ◌++◌, sym, refl, ap, ◌∙◌, ⊎_elim, append-nil, arith}
use Rattle.std.proofs.lemmas.Bool.{cond_both, cases_lt, ne_eqb}
use Rattle.rules.specs.declared.rule.Rule.{Rule as Stored}
use Rattle.rules.specs.Rules.{Canonical, delete}
use Rattle.rules.specs.Answers.{numbered}
use Rattle.tree.specs.Tree.{Tree, RuleTree, leaf, node, height, uses, rules_in, before, look, Balanced, balance}
use Rattle.tree.proofs.Shape.{Restored, balance_restores, balance_plain, balance-uses, balance-rules}
use Rattle.tree.proofs.Cuts.{cut, before_true, before_neither, delete-left, delete_right, delete-here}
use Rattle.tree_edits.specs.Edits.{least_or, head_or, without, merge, prune}

-- u is t with one rule less
abbrev pub Shrunk : {X : Type 0} → Tree X → Tree X → Type 0
Shrunk t u = Balanced u × (height u ≤ height t) × (height t ≤ height u + 1)

module _ {X : Type 0} where
  shrunk_left : (l : Tree X) (i : ℕ) (x : X) (r u : Tree X) → Balanced (node l i x r) → Shrunk l u → Shrunk (node l i x r) (balance u i x r)
  shrunk_left l i x r u (hl, hr, L, R) (U, lo, hi) =
      let B : Restored u r (balance u i x r) = balance_restores u i x r U R (omega arith) (omega arith) in
      ⊎_elim
      (λ (far : height u + 1 < height r). (B.0, omega arith, omega arith))
      (λ (near : height r ≤ height u + 1). let q : height (balance u i x r) ≡ max (height u) (height r) + 1 = ap height (balance_plain u i x r (omega arith) near) in (B.0, omega arith, omega arith))
      (cases_lt (height u + 1) (height r))

  shrunk_right : (l : Tree X) (j i : ℕ) (y x : X) (r u : Tree X) → Balanced (node l j y r) → Shrunk r u → Shrunk (node l j y r) (balance l i x u)
  shrunk_right l j i y x r u (hl, hr, L, R) (U, lo, hi) =
      let B : Restored l u (balance l i x u) = balance_restores l i x u L U (omega arith) (omega arith) in
      ⊎_elim
      (λ (far : height u + 1 < height l). (B.0, omega arith, omega arith))
      (λ (near : height l ≤ height u + 1). let q : height (balance l i x u) ≡ max (height l) (height u) + 1 = ap height (balance_plain l i x u near (omega arith)) in (B.0, omega arith, omega arith))
      (cases_lt (height u + 1) (height l))

  -- without the first
  pub without_keeps : (t : Tree X) → Balanced t → Shrunk t (without t)
  without_keeps leaf B = (tt, omega arith, omega arith)
  without_keeps (node leaf i x r) (hl, hr, L, R) = (R, omega arith, omega arith)
  without_keeps (node (node a j y b) i x r) B = shrunk_left (node a j y b) i x r (without (node a j y b)) B (without_keeps (node a j y b) B.2)

  pub without-uses : (k : ℕ) (l : Tree X) (i : ℕ) (x : X) (r : Tree X) → uses k (without (node l i x r)) + cond (eqb (least_or i l) k) 1 0 ≡ uses k (node l i x r)
  without-uses k leaf i x r = omega arith
  without-uses k (node a j y b) i x r = omega (arith, balance-uses k (without (node a j y b)) i x r, without-uses k a j y b)

  -- joined by the first of the second
  merge_keeps : (l : Tree X) (i : ℕ) (x : X) (r : Tree X) → Balanced (node l i x r) → Shrunk (node l i x r) (merge l r)
  merge_keeps l i x leaf (hl, hr, L, R) = (L, omega arith, omega arith)
  merge_keeps l i x (node a j y b) B = shrunk_right l i (least_or j a) x (head_or y a) (node a j y b) (without (node a j y b)) B (without_keeps (node a j y b) B.3)

  merge-uses : (k : ℕ) (l r : Tree X) → uses k (merge l r) ≡ uses k l + uses k r
  merge-uses k l leaf = omega arith
  merge-uses k l (node a j y b) = omega (arith, balance-uses k l (least_or j a) (head_or y a) (without (node a j y b)), without-uses k a j y b)

  pub prune_keeps : (lt : X → X → Bool) (x : X) (t : Tree X) → Balanced t → Shrunk t (prune lt x t)
  prune_keeps lt x leaf B = (tt, omega arith, omega arith)
  prune_keeps lt x (node l i y r) B =
      cond_both (lt x y) _ _ (λ t. Shrunk (node l i y r) t)
      (λ _. shrunk_left l i y r (prune lt x l) B (prune_keeps lt x l B.2))
      (λ _. cond_both (lt y x) _ _ (λ t. Shrunk (node l i y r) t)
      (λ _. shrunk_right l i i y y r (prune lt x r) B (prune_keeps lt x r B.3))
      (λ _. merge_keeps l i y r B))

  -- it frees the number that `look` finds, and no other
  pub prune-uses : (lt : X → X → Bool) (x : X) (k : ℕ) (t : Tree X) → 0 < k → uses k (prune lt x t) + cond (eqb (look lt x t) k) 1 0 ≡ uses k t
  prune-uses lt x k leaf h = ap (λ b. 0 + cond b 1 0) (ne_eqb 0 k (λ q. omega arith)) ∙ refl
  prune-uses lt x k (node l i y r) h =
      by (lt x y) (lt y x) (prune-uses lt x k l h) (prune-uses lt x k r h)
    where
      by : (p q : Bool) → uses k (prune lt x l) + cond (eqb (look lt x l) k) 1 0 ≡ uses k l → uses k (prune lt x r) + cond (eqb (look lt x r) k) 1 0 ≡ uses k r
          → uses k (cond p (balance (prune lt x l) i y r) (cond q (balance l i y (prune lt x r)) (merge l r))) + cond (eqb (cond p (look lt x l) (cond q (look lt x r) i)) k) 1 0 ≡ uses k l + uses k r + cond (eqb i k) 1 0
      by true q a b = omega (arith, balance-uses k (prune lt x l) i y r)
      by false true a b = omega (arith, balance-uses k l i y (prune lt x r))
      by false false a b = omega (arith, merge-uses k l r)

  pub prune_less : (lt : X → X → Bool) (x : X) (k : ℕ) (t : Tree X) → uses k (prune lt x t) ≤ uses k t
  prune_less lt x k leaf = omega arith
  prune_less lt x k (node l i y r) =
      cond_both (lt x y) _ _ (λ t. uses k t ≤ uses k (node l i y r))
      (λ _. omega (arith, balance-uses k (prune lt x l) i y r, prune_less lt x k l))
      (λ _. cond_both (lt y x) _ _ (λ t. uses k t ≤ uses k (node l i y r))
      (λ _. omega (arith, balance-uses k l i y (prune lt x r), prune_less lt x k r))
      (λ _. omega (arith, merge-uses k l r)))

-- the rules that are left
module _ {A : Type 0} (num : A → ℕ) where
  without-rules : (l : RuleTree A) (i : ℕ) (x : Stored A) (r : RuleTree A) → rules_in num (node l i x r) ≡ numbered num (head_or x l) ∷ rules_in num (without (node l i x r))
  without-rules leaf i x r = refl
  without-rules (node a j y b) i x r =
      ap (λ w. w ++ (numbered num x ∷ rules_in num r)) (without-rules a j y b) ∙ ap (λ w. numbered num (head_or y a) ∷ w) (sym (balance-rules num (without (node a j y b)) i x r))

  merge-rules : (l r : RuleTree A) → rules_in num (merge l r) ≡ rules_in num l ++ rules_in num r
  merge-rules l leaf = sym (append-nil (rules_in num l))
  merge-rules l (node a j y b) = balance-rules num l (least_or j a) (head_or y a) (without (node a j y b)) ∙ ap (λ w. rules_in num l ++ w) (sym (without-rules a j y b))

  pub prune-rules : (x : Stored A) (t : RuleTree A) → Canonical (rules_in num t) → rules_in num (prune (before num) x t) ≡ delete (num x.start) (num x.finish) (rules_in num t)
  unfolding delete
  prune-rules x leaf c = refl
  prune-rules x (node l i y r) c =
      let L = rules_in num l in
      let R = rules_in num r in
      let X = numbered num x in
      let Y = numbered num y in
      let C = cut L Y R c in
      cond_both (before num x y) _ _ (λ t. rules_in num t ≡ delete (num x.start) (num x.finish) (L ++ (Y ∷ R)))
      (λ p. balance-rules num (prune (before num) x l) i y r ∙ ap (λ w. w ++ (Y ∷ R)) (prune-rules x l C.left) ∙ sym (delete-left X L Y R C (before_true X Y p)))
      (λ p. cond_both (before num y x) _ _ (λ t. rules_in num t ≡ delete (num x.start) (num x.finish) (L ++ (Y ∷ R)))
      (λ q. balance-rules num l i y (prune (before num) x r) ∙ ap (λ w. L ++ (Y ∷ w)) (prune-rules x r C.right) ∙ sym (delete_right X L Y R C (before_true Y X q)))
      (λ q. merge-rules l r ∙ sym (delete-here X L Y R C (before_neither X Y p q))))
