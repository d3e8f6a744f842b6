-- Turns on trees alone: they keep the rules, their order and the numbers, and restore the balance.
use Rattle.std.proofs.Common.{◌≡◌, ℕ, ◌+◌, ◌<◌, ◌≤◌, max, ltb, refl, ◌∙◌, append_assoc, arith}
use Rattle.std.proofs.lemmas.Bool.{ltb-true, ltb-false, cond_both, cond-true, cond-false, le-ltb, lt-ltb}
use Rattle.rules.specs.declared.rule.Rule.{Rule as Stored}
use Rattle.tree.specs.Tree.{Tree, RuleTree, leaf, node, height, uses, rules_in, Balanced, double_right, turn_right, double_left, turn_left, balance}

-- the ways of a balance step
module _ {X : Type 0} (l : Tree X) (i : ℕ) (x : X) (r : Tree X) where
  pub balance_plain : height l ≤ height r + 1 → height r ≤ height l + 1 → balance l i x r ≡ node l i x r
  balance_plain p q = cond-false _ _ _ (le-ltb _ _ p) ∙ cond-false _ _ _ (le-ltb _ _ q)

  pub balance_right : height r + 1 < height l → balance l i x r ≡ turn_right l i x r
  balance_right h = cond-true _ _ _ (lt-ltb _ _ h)

  pub balance-left : height l + 1 < height r → balance l i x r ≡ turn_left l i x r
  balance-left h = let p : height l ≤ height r + 1 = omega arith in cond-false _ _ _ (le-ltb _ _ p) ∙ cond-true _ _ _ (lt-ltb _ _ h)

  -- what holds of each outcome holds of the step
  pub by_balance : (P : Tree X → Type 0) → (height r + 1 < height l → P (turn_right l i x r)) → (height l + 1 < height r → P (turn_left l i x r))
      → (height l ≤ height r + 1 → height r ≤ height l + 1 → P (node l i x r)) → P (balance l i x r)
  by_balance P right left plain =
      cond_both (ltb (height r + 1) (height l)) _ _ P (λ p. right (ltb-true _ _ p))
      (λ p. cond_both (ltb (height l + 1) (height r)) _ _ P (λ q. left (ltb-true _ _ q)) (λ q. plain (ltb-false _ _ p) (ltb-false _ _ q)))

-- the rules from left to right
module _ {A : Type 0} (num : A → ℕ) where
  double_right-rules : (a : RuleTree A) (j : ℕ) (y : Stored A) (b : RuleTree A) (i : ℕ) (x : Stored A) (r : RuleTree A) → rules_in num (double_right a j y b i x r) ≡ rules_in num (node (node a j y b) i x r)
  double_right-rules a j y leaf i x r = refl
  double_right-rules a j y (node b m z c) i x r = simp append_assoc

  double_left-rules : (l : RuleTree A) (i : ℕ) (x : Stored A) (a : RuleTree A) (j : ℕ) (y : Stored A) (b : RuleTree A) → rules_in num (double_left l i x a j y b) ≡ rules_in num (node l i x (node a j y b))
  double_left-rules l i x leaf j y b = refl
  double_left-rules l i x (node a m z c) j y b = simp append_assoc

  right_rules : (l : RuleTree A) (i : ℕ) (x : Stored A) (r : RuleTree A) → rules_in num (turn_right l i x r) ≡ rules_in num (node l i x r)
  right_rules leaf i x r = refl
  right_rules (node a j y b) i x r =
      cond_both (ltb (height a) (height b)) _ _ (λ t. rules_in num t ≡ rules_in num (node (node a j y b) i x r)) (λ _. double_right-rules a j y b i x r) (λ _. simp append_assoc)

  left-rules : (l : RuleTree A) (i : ℕ) (x : Stored A) (r : RuleTree A) → rules_in num (turn_left l i x r) ≡ rules_in num (node l i x r)
  left-rules l i x leaf = refl
  left-rules l i x (node a j y b) =
      cond_both (ltb (height b) (height a)) _ _ (λ t. rules_in num t ≡ rules_in num (node l i x (node a j y b))) (λ _. double_left-rules l i x a j y b) (λ _. simp append_assoc)

  pub balance-rules : (l : RuleTree A) (i : ℕ) (x : Stored A) (r : RuleTree A) → rules_in num (balance l i x r) ≡ rules_in num (node l i x r)
  balance-rules l i x r = by_balance l i x r (λ t. rules_in num t ≡ rules_in num (node l i x r)) (λ _. right_rules l i x r) (λ _. left-rules l i x r) (λ _ _. refl)

-- the numbers
module _ {X : Type 0} (k : ℕ) where
  double_right-uses : (a : Tree X) (j : ℕ) (y : X) (b : Tree X) (i : ℕ) (x : X) (r : Tree X) → uses k (double_right a j y b i x r) ≡ uses k (node (node a j y b) i x r)
  double_right-uses a j y leaf i x r = refl
  double_right-uses a j y (node b m z c) i x r = omega arith

  double_left-uses : (l : Tree X) (i : ℕ) (x : X) (a : Tree X) (j : ℕ) (y : X) (b : Tree X) → uses k (double_left l i x a j y b) ≡ uses k (node l i x (node a j y b))
  double_left-uses l i x leaf j y b = refl
  double_left-uses l i x (node a m z c) j y b = omega arith

  right_uses : (l : Tree X) (i : ℕ) (x : X) (r : Tree X) → uses k (turn_right l i x r) ≡ uses k (node l i x r)
  right_uses leaf i x r = refl
  right_uses (node a j y b) i x r =
      cond_both (ltb (height a) (height b)) _ _ (λ t. uses k t ≡ uses k (node (node a j y b) i x r)) (λ _. double_right-uses a j y b i x r) (λ _. omega arith)

  left-uses : (l : Tree X) (i : ℕ) (x : X) (r : Tree X) → uses k (turn_left l i x r) ≡ uses k (node l i x r)
  left-uses l i x leaf = refl
  left-uses l i x (node a j y b) =
      cond_both (ltb (height b) (height a)) _ _ (λ t. uses k t ≡ uses k (node l i x (node a j y b))) (λ _. double_left-uses l i x a j y b) (λ _. omega arith)

  pub balance-uses : (l : Tree X) (i : ℕ) (x : X) (r : Tree X) → uses k (balance l i x r) ≡ uses k (node l i x r)
  balance-uses l i x r = by_balance l i x r (λ t. uses k t ≡ uses k (node l i x r)) (λ _. right_uses l i x r) (λ _. left-uses l i x r) (λ _ _. refl)

-- what a balance step makes of two balanced trees whose heights differ by two at most
abbrev pub Restored : {X : Type 0} → Tree X → Tree X → Tree X → Type 0
Restored l r t = Balanced t × (max (height l) (height r) ≤ height t) × (height t ≤ max (height l) (height r) + 1)

module _ {X : Type 0} where
  double_right_restores : (a : Tree X) (j : ℕ) (y : X) (b : Tree X) (i : ℕ) (x : X) (r : Tree X) → Balanced (node a j y b) → Balanced r → height a < height b → height b ≡ height r + 1 → Restored (node a j y b) r (double_right a j y b i x r)
  double_right_restores a j y leaf i x r B R h k = absurd (omega arith)
  double_right_restores a j y (node b m z c) i x r (bl, br, ba, (b1, b2, bb, bc)) R h k =
      ((omega arith, omega arith, (omega arith, omega arith, ba, bb), (omega arith, omega arith, bc, R)), omega arith, omega arith)

  right_restores : (l : Tree X) (i : ℕ) (x : X) (r : Tree X) → Balanced l → Balanced r → height l ≡ height r + 2 → Restored l r (turn_right l i x r)
  right_restores leaf i x r L R h = absurd (omega arith)
  right_restores (node a j y b) i x r L R h =
      cond_both (ltb (height a) (height b)) _ _ (λ t. Restored (node a j y b) r t)
      (λ q. let lt : height a < height b = ltb-true _ _ q in double_right_restores a j y b i x r L R lt (omega arith))
      (λ q. let le : height b ≤ height a = ltb-false _ _ q in ((omega arith, omega arith, L.2, (omega arith, omega arith, L.3, R)), omega arith, omega arith))

  double_left_restores : (l : Tree X) (i : ℕ) (x : X) (a : Tree X) (j : ℕ) (y : X) (b : Tree X) → Balanced l → Balanced (node a j y b) → height b < height a → height a ≡ height l + 1 → Restored l (node a j y b) (double_left l i x a j y b)
  double_left_restores l i x leaf j y b L R h k = absurd (omega arith)
  double_left_restores l i x (node a m z c) j y b L (bl, br, (b1, b2, ba, bc), bb) h k =
      ((omega arith, omega arith, (omega arith, omega arith, L, ba), (omega arith, omega arith, bc, bb)), omega arith, omega arith)

  left_restores : (l : Tree X) (i : ℕ) (x : X) (r : Tree X) → Balanced l → Balanced r → height r ≡ height l + 2 → Restored l r (turn_left l i x r)
  left_restores l i x leaf L R h = absurd (omega arith)
  left_restores l i x (node a j y b) L R h =
      cond_both (ltb (height b) (height a)) _ _ (λ t. Restored l (node a j y b) t)
      (λ q. let lt : height b < height a = ltb-true _ _ q in double_left_restores l i x a j y b L R lt (omega arith))
      (λ q. let le : height a ≤ height b = ltb-false _ _ q in ((omega arith, omega arith, (omega arith, omega arith, L, R.2), R.3), omega arith, omega arith))

  pub balance_restores : (l : Tree X) (i : ℕ) (x : X) (r : Tree X) → Balanced l → Balanced r → height l ≤ height r + 2 → height r ≤ height l + 2 → Restored l r (balance l i x r)
  balance_restores l i x r L R p q =
      by_balance l i x r (λ t. Restored l r t)
      (λ h. right_restores l i x r L R (omega arith)) (λ h. left_restores l i x r L R (omega arith))
      (λ h k. ((h, k, L, R), omega arith, omega arith))
