-- An insertion: the balance, the numbers and the rules, and the parts that each step joins.
use Rattle.std.proofs.Common.{◌≡◌, ℕ, ◌+◌, ◌<◌, ◌≤◌, max, Bool, true, false, cond, eqb, List, ◌∷◌, ◌++◌, length, sym, refl, ap, ◌∙◌, inl, inr, ⊎_elim, arith}
use Rattle.std.proofs.lemmas.Bool.{cond_both, cond-true, cond-false, cases_lt, cases_eq, ne_eqb}
use Rattle.std.proofs.lemmas.Bool.Decides.{nat_tests}
use Rattle.rules.specs.declared.rule.Rule.{Rule as Stored}
use Rattle.rules.specs.Rules.{Rule, Same, Absent, Earlier, Canonical, earlier, insert}
use Rattle.rules.specs.Answers.{numbered}
use Rattle.tree.specs.declared.node.Node.{Node}
use Rattle.tree.specs.declared.node.Branch.{Branch}
use Rattle.tree.specs.Tree.{Tree, RuleTree, leaf, node, height, uses, rules_in, before, Balanced, balance}
use Rattle.tree.specs.Nodes.{Held, Opened, Parts, Beyond}
use Rattle.tree.proofs.Shape.{Restored, balance_restores, balance_plain, balance-uses, balance-rules}
use Rattle.tree.proofs.Held.{own, held_kept, none}
use Rattle.tree.proofs.Cuts.{cut, in_left, in_right, before_true, insert-left, insert_right}
use Rattle.tree_edits.specs.Edits.{grow}

-- u is t with one more rule
abbrev pub Grown : {X : Type 0} → Tree X → Tree X → Type 0
Grown t u = Balanced u × (height t ≤ height u) × (height u ≤ height t + 1)

module _ {X : Type 0} where
  grown_left : (l : Tree X) (i : ℕ) (x : X) (r u : Tree X) → Balanced (node l i x r) → Grown l u → Grown (node l i x r) (balance u i x r)
  grown_left l i x r u (hl, hr, L, R) (U, lo, hi) =
      let B : Restored u r (balance u i x r) = balance_restores u i x r U R (omega arith) (omega arith) in
      ⊎_elim
      (λ (far : height r + 1 < height u). (B.0, omega arith, omega arith))
      (λ (near : height u ≤ height r + 1). let q : height (balance u i x r) ≡ max (height u) (height r) + 1 = ap height (balance_plain u i x r near (omega arith)) in (B.0, omega arith, omega arith))
      (cases_lt (height r + 1) (height u))

  grown_right : (l : Tree X) (i : ℕ) (x : X) (r u : Tree X) → Balanced (node l i x r) → Grown r u → Grown (node l i x r) (balance l i x u)
  grown_right l i x r u (hl, hr, L, R) (U, lo, hi) =
      let B : Restored l u (balance l i x u) = balance_restores l i x u L U (omega arith) (omega arith) in
      ⊎_elim
      (λ (far : height l + 1 < height u). (B.0, omega arith, omega arith))
      (λ (near : height u ≤ height l + 1). let q : height (balance l i x u) ≡ max (height l) (height u) + 1 = ap height (balance_plain l i x u (omega arith) near) in (B.0, omega arith, omega arith))
      (cases_lt (height l + 1) (height u))

  pub grow_keeps : (lt : X → X → Bool) (t : Tree X) (k : ℕ) (x : X) → Balanced t → Grown t (grow lt t k x)
  grow_keeps lt leaf k x B = ((omega arith, omega arith, tt, tt), omega arith, omega arith)
  grow_keeps lt (node l i y r) k x B =
      cond_both (lt x y) _ _ (λ t. Grown (node l i y r) t)
      (λ _. grown_left l i y r (grow lt l k x) B (grow_keeps lt l k x B.2))
      (λ _. grown_right l i y r (grow lt r k x) B (grow_keeps lt r k x B.3))

  pub grow-uses : (lt : X → X → Bool) (t : Tree X) (k : ℕ) (x : X) (j : ℕ) → uses j (grow lt t k x) ≡ uses j t + cond (eqb k j) 1 0
  grow-uses lt leaf k x j = omega arith
  grow-uses lt (node l i y r) k x j =
      cond_both (lt x y) _ _ (λ t. uses j t ≡ uses j (node l i y r) + cond (eqb k j) 1 0)
      (λ _. balance-uses j (grow lt l k x) i y r ∙ omega (arith, grow-uses lt l k x j))
      (λ _. balance-uses j l i y (grow lt r k x) ∙ omega (arith, grow-uses lt r k x j))

-- the rule goes in at its place
module _ {A : Type 0} (num : A → ℕ) where
  pub grow-rules : (t : RuleTree A) (k : ℕ) (x : Stored A) → Canonical (rules_in num t) → Absent (numbered num x) (rules_in num t) → rules_in num (grow (before num) t k x) ≡ insert (numbered num x) (rules_in num t)
  unfolding insert
  grow-rules leaf k x c a = refl
  grow-rules (node l i y r) k x c a =
      let L = rules_in num l in
      let R = rules_in num r in
      let C = cut L (numbered num y) R c in
      cond_both (before num x y) _ _ (λ t. rules_in num t ≡ insert (numbered num x) (L ++ (numbered num y ∷ R)))
      (λ q. balance-rules num (grow (before num) l k x) i y r ∙ ap (λ w. w ++ (numbered num y ∷ R)) (grow-rules l k x C.left (λ s h. a s (in_left L (numbered num y ∷ R) s h)))
      ∙ sym (insert-left (numbered num x) (numbered num y) L R (before_true (numbered num x) (numbered num y) q)))
      (λ q. balance-rules num l i y (grow (before num) r k x) ∙ ap (λ w. L ++ (numbered num y ∷ w)) (grow-rules r k x C.right (λ s h. a s (in_right L (numbered num y ∷ R) s (inr h))))
      ∙ sym (insert_right (numbered num x) (numbered num y) L R (later (numbered num x) (numbered num y) q (a (numbered num y) (in_right L (numbered num y ∷ R) (numbered num y) (inl refl)))) C.below))
    where
      later : (r f : Rule) → earlier r f ≡ false → (Same r f → ⊥) → Earlier f r
      later r f q n = grind (arith, nat_tests)

pub other_own : (i j : ℕ) → (i ≡ j → ⊥) → ◌≡◌ {A = ℕ} (cond (eqb i j) 1 0) 0
other_own i j h = ap (λ b. cond b 1 0) (ne_eqb i j h)

-- one use more of what was not used
one_more : {X : Type 0} (t : Tree X) (i k : ℕ) → uses i t ≡ 0 → uses k t ≤ 1 → uses k t + cond (eqb i k) 1 0 ≤ 1
one_more t i k off h =
    ⊎_elim
    (λ (q : i ≡ k). let z : uses k t ≡ 0 = ap (λ m. uses m t) (sym q) ∙ off in omega (arith, ap (λ (m : ℕ). cond {A = ℕ} (eqb m k) 1 0) q, own k))
    (λ (ne : i ≡ k → ⊥). omega (arith, other_own i k ne))
    (cases_eq i k)

-- what is used is not what is off
not_off : {X : Type 0} (t : Tree X) (i j : ℕ) → uses i t ≡ 0 → 0 < uses j t → ◌≡◌ {A = ℕ} (cond (eqb i j) 1 0) 0
not_off t i j off h = other_own i j (λ q. let z : uses j t ≡ 0 = ap (λ m. uses m t) (sym q) ∙ off in omega arith)

module _ {A : Type 0} (num : A → ℕ) (lt : Stored A → Stored A → Bool) (ns : List (Node A)) (root i : ℕ) (x : Stored A) (t : RuleTree A) (n : Branch A) (H : Held num ns root t) (O : Opened num ns root t n) (off : uses i t ≡ 0) where
  uses_is : (k : ℕ) → uses k t ≡ uses k O.lower + uses k O.upper + cond (eqb n.node k) 1 0
  uses_is k = ap (λ u. uses k u) O.is

  module _ (ms : List (Node A)) (k : ℕ) (q : length ms ≡ length ns) where
    pub grow_left_parts : Held num ms k (grow lt O.lower i x) → Beyond (grow lt O.lower i x) ns ms → Parts num ms n.node k n.right (grow lt O.lower i x) O.upper
    grow_left_parts L far =
        record {
          lower = L;
          upper = held_kept num ns ms n.right O.upper q (λ j d z u. far j d z (grow-uses lt O.lower i x j ∙ omega (arith, not_off O.upper i j (omega (arith, uses_is i)) u, uses_is j, H.apart j))) O.above;
          apart = λ j. omega (arith, grow-uses lt O.lower i x j, uses_is j, one_more t i j off (H.apart j));
          some = O.some;
          within = omega (arith, O.within);
        }

    pub grow_right_parts : Held num ms k (grow lt O.upper i x) → Beyond (grow lt O.upper i x) ns ms → Parts num ms n.node n.left k O.lower (grow lt O.upper i x)
    grow_right_parts R far =
        record {
          lower = held_kept num ns ms n.left O.lower q (λ j d z u. far j d z (grow-uses lt O.upper i x j ∙ omega (arith, not_off O.lower i j (omega (arith, uses_is i)) u, uses_is j, H.apart j))) O.below;
          upper = R;
          apart = λ j. omega (arith, grow-uses lt O.upper i x j, uses_is j, one_more t i j off (H.apart j));
          some = O.some;
          within = omega (arith, O.within);
        }

  pub grow_left_is : lt x n.rule ≡ true → grow lt t i x ≡ balance (grow lt O.lower i x) n.node n.rule O.upper
  grow_left_is h = ap (λ u. grow lt u i x) O.is ∙ cond-true _ _ _ h

  pub grow_right_is : lt x n.rule ≡ false → grow lt t i x ≡ balance O.lower n.node n.rule (grow lt O.upper i x)
  grow_right_is h = ap (λ u. grow lt u i x) O.is ∙ cond-false _ _ _ h

  pub grow_left_beyond : (ms ls : List (Node A)) → Beyond (grow lt O.lower i x) ns ms → Beyond (node (grow lt O.lower i x) n.node n.rule O.upper) ms ls → Beyond (grow lt t i x) ns ls
  grow_left_beyond ms ls far far' j d z u =
      let g = grow-uses lt t i x j in
      let h = grow-uses lt O.lower i x j in
      let s = uses_is j in
      far' j d z (omega arith) ∙ far j d z (omega arith)

  pub grow_right_beyond : (ms ls : List (Node A)) → Beyond (grow lt O.upper i x) ns ms → Beyond (node O.lower n.node n.rule (grow lt O.upper i x)) ms ls → Beyond (grow lt t i x) ns ls
  grow_right_beyond ms ls far far' j d z u =
      let g = grow-uses lt t i x j in
      let h = grow-uses lt O.upper i x j in
      let s = uses_is j in
      far' j d z (omega arith) ∙ far j d z (omega arith)

pub leaf-parts : {A : Type 0} (num : A → ℕ) (ns : List (Node A)) (i : ℕ) → 0 < i → i ≤ length ns → Parts num ns i 0 0 leaf leaf
leaf-parts {A} num ns i h w = record { lower = none num ns; upper = none num ns; apart = λ j. one_more {X = Stored A} leaf i j refl (omega arith); some = h; within = w }
