-- The steps of a removal, each as parts of the next node.
use Rattle.std.proofs.Common.{◌≡◌, ℕ, ◌+◌, ◌<◌, ◌≤◌, Bool, true, false, cond, eqb, List, length, Some, None, Option, MatchOption, sym, refl, ap, ◌∙◌, subst, arith}
use Rattle.std.proofs.lemmas.Bool.{cond-true, cond-false}
use Rattle.std.specs.Option.{unwrap_or}
use Rattle.rules.specs.declared.rule.Rule.{Rule as Stored}
use Rattle.tree.specs.declared.node.Node.{Node}
use Rattle.tree.specs.declared.node.Branch.{Branch}
use Rattle.tree.specs.Tree.{Tree, RuleTree, leaf, node, uses, balance}
use Rattle.tree.specs.Nodes.{Held, Opened, Parts, Beyond}
use Rattle.tree.proofs.Held.{held_kept}
use Rattle.tree_edits.specs.Edits.{without, rest_of, merge, prune}
use Rattle.tree_edits.specs.Beside.{LeastAt, Beside, BeyondBoth}
use Rattle.tree_edits.proofs.Prunes.{without-uses, prune_less}

pub uses_less : {X : Type 0} (k : ℕ) (t : Tree X) → uses k (without t) ≤ uses k t
uses_less k leaf = omega arith
uses_less k (node l i e r) = omega (arith, without-uses k l i e r)

module _ {A : Type 0} (num : A → ℕ) where
  least_deeper : (m : ℕ) (l : RuleTree A) (i : ℕ) (e : Stored A) (r : RuleTree A) (p : ℕ) (x : Stored A) → LeastAt m l p x → LeastAt m (node l i e r) p x
  least_deeper m leaf i e r p x h = absurd h
  least_deeper m (node a j f b) i e r p x h = h

  -- the first node of the left tree, or else the top
  first_of : (m i : ℕ) (l : RuleTree A) (x : Stored A) (r : RuleTree A) (o : Option (ℕ × Stored A)) → 0 < i → i ≤ m → MatchOption o (l ≡ leaf) (λ f. LeastAt m l f.0 f.1)
      → LeastAt m (node l i x r) (unwrap_or o (i, x)).0 (unwrap_or o (i, x)).1
  first_of m i l x r None p w h = subst (λ a. LeastAt m (node a i x r) i x) (sym h) (refl, refl, p, w)
  first_of m i l x r (Some f) p w h = least_deeper m l i x r f.0 f.1 h

  pub least_is : (m i : ℕ) (t l : RuleTree A) (x : Stored A) (r : RuleTree A) (o : Option (ℕ × Stored A)) (f : ℕ × Stored A) → t ≡ node l i x r → f ≡ unwrap_or o (i, x) → 0 < i → i ≤ m
      → MatchOption o (l ≡ leaf) (λ f. LeastAt m l f.0 f.1) → LeastAt m t f.0 f.1
  least_is m i t l x r o f e q p w h = subst (λ v. LeastAt m v f.0 f.1) (sym e) (subst (λ (f : ℕ × Stored A). LeastAt m (node l i x r) f.0 f.1) (sym q) (first_of m i l x r o p w h))

  -- what stands behind a link is what its top is made of
  pub opened_parts : (ns : List (Node A)) (k : ℕ) (t : RuleTree A) (n : Branch A) (O : Opened num ns k t n) → Held num ns k t → Parts num ns n.node n.left n.right O.lower O.upper
  opened_parts ns k t n O H =
      record { lower = O.below; upper = O.above; apart = λ j. omega (arith, H.apart j, ap (λ u. uses j u) O.is); some = O.some; within = O.within }

  -- the left tree l of the node n, with the top m, loses its first node
  module _ (ns : List (Node A)) (n m : Branch A) (l r : RuleTree A) (P : Parts num ns n.node n.left n.right l r) (O : Opened num ns n.left l m) where
    pub without_below : balance (without l) n.node n.rule r ≡ without (node l n.node n.rule r)
    without_below = subst (λ u. balance (without l) n.node n.rule r ≡ rest_of u (without l) n.node n.rule r) (sym O.is) refl

    module _ (ms : List (Node A)) (far : Beyond (node O.lower m.node m.rule O.upper) ns ms) where
      outside : Beyond l ns ms
      outside = subst (λ u. Beyond u ns ms) (sym O.is) far

      pub without_parts : (p : ℕ) → length ms ≡ length ns → Held num ms p (without (node O.lower m.node m.rule O.upper)) → Parts num ms n.node p n.right (without l) r
      without_parts p q L =
          record {
            lower = subst (λ u. Held num ms p (without u)) (sym O.is) L;
            upper = held_kept num ns ms n.right r q (λ j d z u. outside j d z (omega (arith, P.apart j))) P.upper;
            apart = λ j. omega (arith, uses_less j l, P.apart j);
            some = P.some;
            within = omega (arith, P.within);
          }

      pub without_beyond : (ls : List (Node A)) → Beyond (node (without l) n.node n.rule r) ms ls → Beyond (node l n.node n.rule r) ns ls
      without_beyond ls far' j d z u =
          let w = uses_less j l in
          far' j d z (omega arith) ∙ outside j d z (omega arith)

  -- the join of two trees by the least node of the second
  pub merge_is : (m : ℕ) (l r : RuleTree A) (p : ℕ) (x : Stored A) → LeastAt m r p x → merge l r ≡ balance l p x (without r)
  merge_is m l leaf p x h = absurd h
  merge_is m l (node a j f b) p x h = λ i. balance l (sym h.0 i) (sym h.1 i) (without (node a j f b))

  uses-least : (m k : ℕ) (r : RuleTree A) (p : ℕ) (x : Stored A) → LeastAt m r p x → uses k (without r) + cond (eqb p k) 1 0 ≡ uses k r
  uses-least m k leaf p x h = absurd h
  uses-least m k (node a j f b) p x h = omega (arith, ap (λ (y : ℕ). cond {A = ℕ} (eqb y k) 1 0) h.0, without-uses k a j f b)

  least-some : (m : ℕ) (r : RuleTree A) (p : ℕ) (x : Stored A) → LeastAt m r p x → (0 < p) × (p ≤ m)
  least-some m leaf p x h = absurd h
  least-some m (node a j f b) p x h = (h.2, h.3)

  -- m is the top of the second tree, p its first node and x the rule of that
  module _ (ns : List (Node A)) (left right : ℕ) (l r : RuleTree A) (B : Beside num ns left right l r) (p : ℕ) (x : Stored A) (h : LeastAt (length ns) r p x) (m : Branch A) (O : Opened num ns right r m)
      (ms : List (Node A)) (far : Beyond (node O.lower m.node m.rule O.upper) ns ms) where
    outside_of : Beyond r ns ms
    outside_of = subst (λ u. Beyond u ns ms) (sym O.is) far

    pub merge_parts : (k : ℕ) → length ms ≡ length ns → Held num ms k (without (node O.lower m.node m.rule O.upper)) → Parts num ms p left k l (without r)
    merge_parts k q R =
        let s = least-some (length ns) r p x h in
        record {
          lower = held_kept num ns ms left l q (λ j d z u. outside_of j d z (omega (arith, B.apart j))) B.lower;
          upper = subst (λ u. Held num ms k (without u)) (sym O.is) R;
          apart = λ j. omega (arith, uses-least (length ns) j r p x h, B.apart j);
          some = s.0;
          within = omega (arith, s.1);
        }

    pub merge_beyond : (ls : List (Node A)) → Beyond (node l p x (without r)) ms ls → BeyondBoth l r ns ls
    merge_beyond ls far' j d z ul ur =
        let s = uses-least (length ns) j r p x h in
        far' j d z (omega arith) ∙ outside_of j d z ur

  -- a removal
  module _ (lt : Stored A → Stored A → Bool) (x : Stored A) (ns : List (Node A)) (k : ℕ) (t : RuleTree A) (n : Branch A) (H : Held num ns k t) (O : Opened num ns k t n) where
    uses-of : (j : ℕ) → uses j t ≡ uses j O.lower + uses j O.upper + cond (eqb n.node j) 1 0
    uses-of j = ap (λ u. uses j u) O.is

    pub prune-left-is : lt x n.rule ≡ true → prune lt x t ≡ balance (prune lt x O.lower) n.node n.rule O.upper
    prune-left-is h = ap (λ u. prune lt x u) O.is ∙ cond-true _ _ _ h

    pub prune-right-is : lt x n.rule ≡ false → lt n.rule x ≡ true → prune lt x t ≡ balance O.lower n.node n.rule (prune lt x O.upper)
    prune-right-is h h' = ap (λ u. prune lt x u) O.is ∙ cond-false _ _ _ h ∙ cond-true _ _ _ h'

    pub prune-here-is : lt x n.rule ≡ false → lt n.rule x ≡ false → prune lt x t ≡ merge O.lower O.upper
    prune-here-is h h' = ap (λ u. prune lt x u) O.is ∙ cond-false _ _ _ h ∙ cond-false _ _ _ h'

    pub beside : Beside num ns n.left n.right O.lower O.upper
    beside = record { lower = O.below; upper = O.above; apart = λ j. omega (arith, uses-of j, H.apart j) }

    pub beside-beyond : (ms : List (Node A)) → BeyondBoth O.lower O.upper ns ms → Beyond t ns ms
    beside-beyond ms far j d z u = let s = uses-of j in far j d z (omega arith) (omega arith)

    module _ (ms : List (Node A)) (p : ℕ) (q : length ms ≡ length ns) where
      pub prune-left-parts : Held num ms p (prune lt x O.lower) → Beyond O.lower ns ms → Parts num ms n.node p n.right (prune lt x O.lower) O.upper
      prune-left-parts L far =
          record {
            lower = L;
            upper = held_kept num ns ms n.right O.upper q (λ j d z u. far j d z (omega (arith, uses-of j, H.apart j))) O.above;
            apart = λ j. omega (arith, prune_less lt x j O.lower, uses-of j, H.apart j);
            some = O.some;
            within = omega (arith, O.within);
          }

      pub prune-right-parts : Held num ms p (prune lt x O.upper) → Beyond O.upper ns ms → Parts num ms n.node n.left p O.lower (prune lt x O.upper)
      prune-right-parts R far =
          record {
            lower = held_kept num ns ms n.left O.lower q (λ j d z u. far j d z (omega (arith, uses-of j, H.apart j))) O.below;
            upper = R;
            apart = λ j. omega (arith, prune_less lt x j O.upper, uses-of j, H.apart j);
            some = O.some;
            within = omega (arith, O.within);
          }

    pub prune-left-beyond : (ms ls : List (Node A)) → Beyond O.lower ns ms → Beyond (node (prune lt x O.lower) n.node n.rule O.upper) ms ls → Beyond t ns ls
    prune-left-beyond ms ls far far' j d z u =
        let s = uses-of j in
        let w = prune_less lt x j O.lower in
        far' j d z (omega arith) ∙ far j d z (omega arith)

    pub prune-right-beyond : (ms ls : List (Node A)) → Beyond O.upper ns ms → Beyond (node O.lower n.node n.rule (prune lt x O.upper)) ms ls → Beyond t ns ls
    prune-right-beyond ms ls far far' j d z u =
        let s = uses-of j in
        let w = prune_less lt x j O.upper in
        far' j d z (omega arith) ∙ far j d z (omega arith)
