-- The steps of the turns, each as parts of the next node.
use Rattle.std.proofs.Common.{◌≡◌, ℕ, ◌+◌, ◌<◌, ◌≤◌, cond, eqb, List, length, ap, ◌∙◌, arith}
use Rattle.std.proofs.lemmas.Bool.{cond-true, cond-false, le-ltb, lt-ltb}
use Rattle.rules.specs.declared.rule.Rule.{Rule as Stored}
use Rattle.tree.specs.declared.node.Node.{Node}
use Rattle.tree.specs.declared.node.Branch.{Branch}
use Rattle.tree.specs.Tree.{RuleTree, node, height, uses, turn_right, turn_left, double_right, double_left}
use Rattle.tree.specs.Nodes.{Held, Opened, Parts, Only, Beyond}
use Rattle.tree.specs.Arms.{Arms, Apart}
use Rattle.tree.proofs.Held.{own, not_own, held_only}

-- two nodes, and one over them
module _ {A : Type 0} (num : A → ℕ) (ns : List (Node A)) (low high : Branch A) (top : ℕ) (x : Stored A) (a b c d : RuleTree A) (S : Arms num ns low high top a b c d) where
  pub low_parts : Parts num ns low.node low.left low.right a b
  low_parts = record { lower = S.low_left; upper = S.low_right; apart = λ k. omega (arith, S.apart k); some = S.some.0; within = S.within.0 }

  module _ (ms : List (Node A)) (q : length ms ≡ length ns) (only : Only low.node ns ms) where
    pub high_parts : Parts num ms high.node high.left high.right c d
    high_parts =
        let off = S.apart low.node in
        let w = own low.node in
        record {
          lower = held_only num ns ms high.left low.node c q only (omega arith) S.high_left;
          upper = held_only num ns ms high.right low.node d q only (omega arith) S.high_right;
          apart = λ k. omega (arith, S.apart k);
          some = S.some.1;
          within = omega (arith, S.within.1);
        }

    pub top-parts : (ls : List (Node A)) → length ls ≡ length ms → Only high.node ms ls → Held num ms low.node (node a low.node low.rule b) → Held num ls high.node (node c high.node high.rule d)
        → Parts num ls top low.node high.node (node a low.node low.rule b) (node c high.node high.rule d)
    top-parts ls q' only' L H =
        record {
          lower = held_only num ms ls low.node high.node (node a low.node low.rule b) q' only' (omega (arith, S.apart high.node, own high.node)) L;
          upper = H;
          apart = λ k. omega (arith, S.apart k);
          some = S.some.2;
          within = omega (arith, S.within.2);
        }

-- the left tree is too high; n stands behind its link
module _ {A : Type 0} (num : A → ℕ) (ns : List (Node A)) (i left right : ℕ) (x : Stored A) (l r : RuleTree A) (n : Branch A) (P : Parts num ns i left right l r) (O : Opened num ns left l n) where
  pub right_apart : (k : ℕ) → uses k O.lower + uses k O.upper + cond (eqb n.node k) 1 0 + uses k r + cond (eqb i k) 1 0 ≤ 1
  right_apart k = omega (arith, P.apart k, ap (λ t. uses k t) O.is)

  -- once
  pub right_parts : Parts num ns i n.right right O.upper r
  right_parts = record { lower = O.above; upper = P.upper; apart = λ k. omega (arith, right_apart k); some = P.some; within = P.within }

  pub right_over : (ms : List (Node A)) → length ms ≡ length ns → Only i ns ms → Held num ms i (node O.upper i x r) → Parts num ms n.node n.left i O.lower (node O.upper i x r)
  right_over ms q only R =
      record {
        lower = held_only num ns ms n.left i O.lower q only (omega (arith, right_apart i, own i)) O.below;
        upper = R;
        apart = λ k. omega (arith, right_apart k);
        some = O.some;
        within = omega (arith, O.within);
      }

  pub right_is : height O.upper ≤ height O.lower → turn_right l i x r ≡ node O.lower n.node n.rule (node O.upper i x r)
  right_is h = ap (λ t. turn_right t i x r) O.is ∙ cond-false _ _ _ (le-ltb _ _ h)

  pub right_beyond : (ms ls : List (Node A)) → Only i ns ms → Only n.node ms ls → Beyond (node l i x r) ns ls
  right_beyond ms ls o o' j d z u =
      let ul = ap (λ t. uses j t) O.is in
      o' j d z (not_own n.node j (omega arith)) ∙ o j d z (not_own i j (omega arith))

  -- twice; m stands behind n's right link
  module _ (m : Branch A) (Q : Opened num ns n.right O.upper m) where
    pub right-arms : Arms num ns (record { node = n.node; rule = n.rule; left = n.left; right = m.left }) (record { node = i; rule = x; left = m.right; right = right }) m.node O.lower Q.lower Q.upper r
    right-arms =
        record {
          low_left = O.below;
          low_right = Q.below;
          high_left = Q.above;
          high_right = P.upper;
          apart = λ k. omega (arith, right_apart k, ap (λ t. uses k t) Q.is);
          some = (O.some, P.some, Q.some);
          within = (O.within, P.within, Q.within);
        }

    pub right-twice-is : height O.lower < height O.upper → turn_right l i x r ≡ node (node O.lower n.node n.rule Q.lower) m.node m.rule (node Q.upper i x r)
    right-twice-is h = ap (λ t. turn_right t i x r) O.is ∙ cond-true _ _ _ (lt-ltb _ _ h) ∙ ap (λ b. double_right O.lower n.node n.rule b i x r) Q.is

    pub right-twice-beyond : (ms : List (Node A)) → Apart n.node i m.node ns ms → Beyond (node l i x r) ns ms
    right-twice-beyond ms f j d z u =
        let ul = ap (λ t. uses j t) O.is in
        let um = ap (λ t. uses j t) Q.is in
        f j d z (not_own n.node j (omega arith)) (not_own i j (omega arith)) (not_own m.node j (omega arith))

-- the right tree is too high
module _ {A : Type 0} (num : A → ℕ) (ns : List (Node A)) (i left right : ℕ) (x : Stored A) (l r : RuleTree A) (n : Branch A) (P : Parts num ns i left right l r) (O : Opened num ns right r n) where
  pub left-apart : (k : ℕ) → uses k O.lower + uses k O.upper + cond (eqb n.node k) 1 0 + uses k l + cond (eqb i k) 1 0 ≤ 1
  left-apart k = omega (arith, P.apart k, ap (λ t. uses k t) O.is)

  pub left-parts : Parts num ns i left n.left l O.lower
  left-parts = record { lower = P.lower; upper = O.below; apart = λ k. omega (arith, left-apart k); some = P.some; within = P.within }

  pub left_over : (ms : List (Node A)) → length ms ≡ length ns → Only i ns ms → Held num ms i (node l i x O.lower) → Parts num ms n.node i n.right (node l i x O.lower) O.upper
  left_over ms q only L =
      record {
        lower = L;
        upper = held_only num ns ms n.right i O.upper q only (omega (arith, left-apart i, own i)) O.above;
        apart = λ k. omega (arith, left-apart k);
        some = O.some;
        within = omega (arith, O.within);
      }

  pub left_is : height O.lower ≤ height O.upper → turn_left l i x r ≡ node (node l i x O.lower) n.node n.rule O.upper
  left_is h = ap (λ t. turn_left l i x t) O.is ∙ cond-false _ _ _ (le-ltb _ _ h)

  pub left_beyond : (ms ls : List (Node A)) → Only i ns ms → Only n.node ms ls → Beyond (node l i x r) ns ls
  left_beyond ms ls o o' j d z u =
      let ul = ap (λ t. uses j t) O.is in
      o' j d z (not_own n.node j (omega arith)) ∙ o j d z (not_own i j (omega arith))

  module _ (m : Branch A) (Q : Opened num ns n.left O.lower m) where
    pub left-arms : Arms num ns (record { node = i; rule = x; left = left; right = m.left }) (record { node = n.node; rule = n.rule; left = m.right; right = n.right }) m.node l Q.lower Q.upper O.upper
    left-arms =
        record {
          low_left = P.lower;
          low_right = Q.below;
          high_left = Q.above;
          high_right = O.above;
          apart = λ k. omega (arith, left-apart k, ap (λ t. uses k t) Q.is);
          some = (P.some, O.some, Q.some);
          within = (P.within, O.within, Q.within);
        }

    pub left-twice-is : height O.upper < height O.lower → turn_left l i x r ≡ node (node l i x Q.lower) m.node m.rule (node Q.upper n.node n.rule O.upper)
    left-twice-is h = ap (λ t. turn_left l i x t) O.is ∙ cond-true _ _ _ (lt-ltb _ _ h) ∙ ap (λ b. double_left l i x b n.node n.rule O.upper) Q.is

    pub left-twice-beyond : (ms : List (Node A)) → Apart i n.node m.node ns ms → Beyond (node l i x r) ns ms
    left-twice-beyond ms f j d z u =
        let ul = ap (λ t. uses j t) O.is in
        let um = ap (λ t. uses j t) Q.is in
        f j d z (not_own i j (omega arith)) (not_own n.node j (omega arith)) (not_own m.node j (omega arith))
