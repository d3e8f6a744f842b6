-- Stored heights, what a link leads to when it is read to a depth, and how high a balanced tree of so many rules can be.
use Rattle.std.proofs.Common.{◌≡◌, ℕ, zero, suc, ◌+◌, ◌-◌, ◌*◌, ◌^◌, ◌<◌, ◌≤◌, max, List, map, length, get_or, drop, sym, refl, ap, ◌∙◌, subst, ⊎_elim, le_trans, mul-le-mul_right, mul_comm, add-mul, mul-le-mul, add_comm, mul-add, add-one, arith, lit≤, pow_mono}
use native.Mathlib.Nat.{pow-succ'}
use Rattle.std.proofs.lemmas.Bool.{cond-true, cond-false, cases_lt, eq-eqb, ne_eqb}
use Rattle.std.proofs.lemmas.List.{get_or-map, drop_more}
use Rattle.rules.specs.declared.rule.Rule.{Rule as Stored}
use Rattle.tree.specs.declared.node.Node.{Node}
use Rattle.tree.specs.Tree.{Tree, RuleTree, leaf, node, link, height, size, Balanced}
use Rattle.tree.specs.Nodes.{cell, Holds, Held, stored_height, over, read, whole}

module _ {A : Type 0} (num : A → ℕ) (ns : List (Node A)) where
  pub stored_is : (k : ℕ) (t : RuleTree A) → Held num ns k t → stored_height ns k ≡ height t
  stored_is k leaf H = cond-true _ _ _ (eq-eqb k 0 (sym H.here))
  stored_is k (node l i x r) H =
      let ne : k ≡ 0 → ⊥ = λ q. omega (arith, H.here, H.holds.0) in
      let at : k - 1 ≡ i - 1 = omega (arith, H.here) in
      let lt : i - 1 < length ns = omega (arith, H.holds.0, H.holds.1) in
      cond-false _ _ _ (ne_eqb k 0 ne) ∙ ap (λ m. get_or (map (λ (n : Node _). n.height) ns) m 0) at
      ∙ get_or-map (λ (n : Node _). n.height) ns (i - 1) (cell num l x r) 0 lt ∙ ap (λ (n : Node _). n.height) (H.holds.2 (cell num l x r))

  -- a step down a link is a step down in height
  pub stored_falls : {t l r : RuleTree A} {i : ℕ} {x : Stored A} (k left right : ℕ) → t ≡ node l i x r → Held num ns k t → Held num ns left l → Held num ns right r → (stored_height ns left < stored_height ns k) × (stored_height ns right < stored_height ns k)
  stored_falls {t} {l} {r} k left right is H L R =
      let h : height t ≡ max (height l) (height r) + 1 = ap height is in
      let s = stored_is k t H in
      let sl = stored_is left l L in
      let sr = stored_is right r R in
      (omega arith, omega arith)

  over_at : (below : ℕ → RuleTree A) (i : ℕ) (n : Node A) → i - 1 < length ns → get_or ns (i - 1) n ≡ n → over (drop (i - 1) ns) below i ≡ node (below n.left) i n.rule (below n.right)
  over_at below i n lt q = ap (λ xs. over xs below i) (drop_more ns (i - 1) n lt) ∙ ap (λ (m : Node A). node (below m.left) i m.rule (below m.right)) q

  read_is : (f : ℕ) (t : RuleTree A) → Holds num ns t → height t ≤ f → read f ns (link t) ≡ t
  read_is zero leaf H h = refl
  read_is zero (node l i x r) H h = absurd (omega arith)
  read_is (suc f) leaf H h = refl
  read_is (suc f) (node l i x r) (p, w, c, L, R) h =
      let ne : i ≡ 0 → ⊥ = λ q. omega arith in
      let lt : i - 1 < length ns = omega arith in
      cond-false _ _ _ (ne_eqb i 0 ne) ∙ over_at (λ j. read f ns j) i (cell num l x r) lt (c (cell num l x r))
      ∙ ap (λ a. node a i x (read f ns (link r))) (read_is f l L (omega arith)) ∙ ap (λ b. node l i x b) (read_is f r R (omega arith))

  pub whole_is : (k : ℕ) (t : RuleTree A) → Held num ns k t → height t ≤ 64 → whole ns k ≡ t
  unfolding whole
  whole_is k t H h = ap (λ j. read 64 ns j) (sym H.here) ∙ read_is 64 t H.holds h

pub whole_none : {A : Type 0} (ns : List (Node A)) → whole ns 0 ≡ leaf
unfolding whole
whole_none ns = refl

-- 2 to the height is at most the square of one more than the size
square_step : (x a b : ℕ) → x ≤ a * a → x ≤ 2 * (b * b) → 2 * x ≤ (a + b) * (a + b)
square_step x a b p q =
    ⊎_elim
    (λ (lt : a < b). let h : a * a ≤ b * b = mul-le-mul (omega arith) (omega arith) in simp (mul-add, add-mul) (omega arith))
    (λ (ge : b ≤ a). let h : b * b ≤ a * b = mul-le-mul_right b ge in simp (mul-add, add-mul) (omega (arith, mul_comm a b)))
    (cases_lt a b)

step_up : (h k x : ℕ) → k ≤ h + 1 → 2 ^ h ≤ x → 2 ^ k ≤ 2 * x
step_up h k x q A = le_trans (pow_mono q) (subst (λ n. n ≤ 2 * x) (sym (ap (λ n. 2 ^ n) (add-one h) ∙ pow-succ' 2 h)) (omega arith))

higher_step : (h k a b : ℕ) → h ≤ k + 1 → k ≤ h → 2 ^ h ≤ a * a → 2 ^ k ≤ b * b → 2 ^ suc h ≤ (a + b) * (a + b)
higher_step h k a b p q A B = subst (λ n. n ≤ (a + b) * (a + b)) (sym (pow-succ' 2 h)) (square_step (2 ^ h) a b A (step_up k h (b * b) p B))

depth_step : (hl hr a b : ℕ) → hl ≤ hr + 1 → hr ≤ hl + 1 → 2 ^ hl ≤ a * a → 2 ^ hr ≤ b * b → 2 ^ (max hl hr + 1) ≤ (a + b) * (a + b)
depth_step hl hr a b p q A B =
    ⊎_elim
    (λ (lt : hl < hr). let e : suc hr ≡ max hl hr + 1 = omega arith in subst (λ n. 2 ^ n ≤ (a + b) * (a + b)) e (subst (λ n. 2 ^ suc hr ≤ n * n) (add_comm b a) (higher_step hr hl b a q (omega arith) B A)))
    (λ (ge : hr ≤ hl). let e : suc hl ≡ max hl hr + 1 = omega arith in subst (λ n. 2 ^ n ≤ (a + b) * (a + b)) e (higher_step hl hr a b p ge A B))
    (cases_lt hl hr)

depth_bound : {X : Type 0} (t : Tree X) → Balanced t → 2 ^ height t ≤ (size t + 1) * (size t + 1)
depth_bound leaf b = lit≤ tt
depth_bound (node l i x r) b =
    let s : size l + 1 + (size r + 1) ≡ size l + size r + 1 + 1 = omega arith in
    subst (λ n. 2 ^ (max (height l) (height r) + 1) ≤ n * n) s (depth_step (height l) (height r) (size l + 1) (size r + 1) b.0 b.1 (depth_bound l b.2) (depth_bound r b.3))

-- a balanced tree of less than 2 ^ 31 rules is lower than 63
pub height_bound : {X : Type 0} (t : Tree X) → Balanced t → size t + 1 ≤ 2 ^ 31 → height t < 63
height_bound t B h =
    ⊎_elim
    (λ (lt : height t < 63). lt)
    (λ (ge : 63 ≤ height t).
    let a : 2 ^ 63 ≤ 2 ^ height t = pow_mono ge in
    let b : 2 ^ height t ≤ (size t + 1) * (size t + 1) = depth_bound t B in
    let c : (size t + 1) * (size t + 1) ≤ 2 ^ 31 * 2 ^ 31 = mul-le-mul h h in
    absurd (omega arith))
    (cases_lt (height t) 63)
