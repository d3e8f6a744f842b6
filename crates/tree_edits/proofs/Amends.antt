-- Another hop in place: the tree keeps its shape, and the rules are those with the rule put anew.
use Rattle.std.proofs.Common.{◌≡◌, ℕ, ◌+◌, ◌-◌, ◌<◌, ◌≤◌, max, Bool, true, false, cond, eqb, List, ◌∷◌, ◌++◌, length, get_or, set, sym, refl, ap, ◌∙◌, ⊎_elim, arith}
use Rattle.std.proofs.lemmas.Bool.{cond-true, cond-false, cond_both, cases_eq, eq-eqb, ne_eqb}
use Rattle.std.proofs.lemmas.List.{get_or-set_same, length-set}
use Rattle.rules.specs.declared.rule.Rule.{Rule as Stored}
use Rattle.rules.specs.Rules.{Rule, rule, Same, Earlier, Canonical, insert}
use Rattle.rules.specs.Answers.{numbered}
use Rattle.rules.proofs.Members.{insert_replace}
use Rattle.tree.specs.declared.node.Node.{Node}
use Rattle.tree.specs.Tree.{Tree, RuleTree, leaf, node, link, height, uses, rules_in, before, look, Balanced}
use Rattle.tree.specs.Nodes.{lesser, low_with, cell, Holds, Held}
use Rattle.tree.proofs.Held.{own, set_only}
use Rattle.tree.proofs.Cuts.{Cut, cut, before_true, before_neither, insert-left, insert_right}
use Rattle.tree_edits.specs.Edits.{with_hop, amend}

module _ {A : Type 0} (k h : ℕ) where
  amend-link : (t : RuleTree A) → link (amend k h t) ≡ link t
  amend-link leaf = refl
  amend-link (node l i x r) = refl

  pub amend-height : (t : RuleTree A) → height (amend k h t) ≡ height t
  amend-height leaf = refl
  amend-height (node l i x r) = ap (λ n. max n (height (amend k h r)) + 1) (amend-height l) ∙ ap (λ n. max (height l) n + 1) (amend-height r)

  pub amend-uses : (j : ℕ) (t : RuleTree A) → uses j (amend k h t) ≡ uses j t
  amend-uses j leaf = refl
  amend-uses j (node l i x r) = omega (arith, amend-uses j l, amend-uses j r)

  pub amend_keeps : (t : RuleTree A) → Balanced t → Balanced (amend k h t)
  amend_keeps leaf B = tt
  amend_keeps (node l i x r) (a, b, L, R) = let p = amend-height l in let q = amend-height r in (omega arith, omega arith, amend_keeps l L, amend_keeps r R)

  amend_off : (t : RuleTree A) → uses k t ≡ 0 → amend k h t ≡ t
  amend_off leaf u = refl
  amend_off (node l i x r) u =
      let n : eqb i k ≡ false = ne_eqb i k (λ q. omega (arith, ap (λ (m : ℕ). cond {A = ℕ} (eqb m k) 1 0) q, own k)) in
      ap (λ y. node (amend k h l) i y (amend k h r)) (cond-false _ _ _ n) ∙ ap (λ y. node y i x (amend k h r)) (amend_off l (omega arith)) ∙ ap (λ y. node l i x y) (amend_off r (omega arith))

  module _ (num : A → ℕ) where
    amend-start : (i : ℕ) (x : Stored A) → (cond (eqb i k) (with_hop x h) x).start ≡ x.start
    amend-start i x = cond_both (eqb i k) (with_hop x h) x (λ y. y.start ≡ x.start) (λ _. refl) (λ _. refl)

    amend-low : (t : RuleTree A) (y : A) → low_with num (amend k h t) y ≡ low_with num t y
    amend-low leaf y = refl
    amend-low (node l i x r) y =
        ap (λ z. lesser num (low_with num (amend k h l) (low_with num (amend k h r) z)) y) (amend-start i x)
        ∙ ap (λ z. lesser num (low_with num (amend k h l) z) y) (amend-low r x.start)
        ∙ ap (λ z. lesser num z y) (amend-low l (low_with num r x.start))

    amend-cell : (l r : RuleTree A) (x y : Stored A) → y.start ≡ x.start → (n : Node A) → n ≡ cell num l x r → ◌≡◌ {A = Node A} (record { rule = y; low = n.low; left = n.left; right = n.right; height = n.height }) (cell num (amend k h l) y (amend k h r))
    amend-cell l r x y e n c =
        let low : n.low ≡ low_with num (amend k h l) (low_with num (amend k h r) y.start) =
        ap (λ (m : Node A). m.low) c ∙ ap (λ z. low_with num l (low_with num r z)) (sym e) ∙ ap (λ z. low_with num l z) (sym (amend-low r y.start)) ∙ sym (amend-low l (low_with num (amend k h r) y.start)) in
        let left : n.left ≡ link (amend k h l) = ap (λ (m : Node A). m.left) c ∙ sym (amend-link l) in
        let right : n.right ≡ link (amend k h r) = ap (λ (m : Node A). m.right) c ∙ sym (amend-link r) in
        let hl = amend-height l in
        let hr = amend-height r in
        let tall : n.height ≡ max (height (amend k h l)) (height (amend k h r)) + 1 = omega (arith, ap (λ (m : Node A). m.height) c) in
        λ i. record { rule = y; low = low i; left = left i; right = right i; height = tall i }

    module _ (ns : List (Node A)) (n : Node A) (p : 0 < k) (w : k ≤ length ns) (is : n ≡ get_or ns (k - 1) n) where
      abbrev after : List (Node A)
      after = set ns (k - 1) (record { rule = with_hop n.rule h; low = n.low; left = n.left; right = n.right; height = n.height })

      amend-holds : (t : RuleTree A) → Holds num ns t → Holds num after (amend k h t)
      amend-holds leaf H = tt
      amend-holds (node l i x r) (a, b, c, L, R) = (
        a,
        (let q = length-set ns (k - 1) (record { rule = with_hop n.rule h; low = n.low; left = n.left; right = n.right; height = n.height }) in omega arith),
        ⊎_elim
            (λ (q : i ≡ k).
            let lt : k - 1 < length ns = omega arith in
            let s : n ≡ cell num l x r = is ∙ ap (λ (m : ℕ). get_or ns (m - 1) n) (sym q) ∙ c n in
            let y : with_hop n.rule h ≡ cond (eqb i k) (with_hop x h) x = ap (λ (m : Node A). with_hop m.rule h) s ∙ sym (cond-true _ _ _ (eq-eqb i k q)) in
            λ d. ap (λ (m : ℕ). get_or after (m - 1) d) q ∙ get_or-set_same ns (k - 1) _ d lt
            ∙ ap (λ z. record { rule = z; low = n.low; left = n.left; right = n.right; height = n.height }) y
            ∙ amend-cell l r x (cond (eqb i k) (with_hop x h) x) (amend-start i x) n s)
            (λ (ne : i ≡ k → ⊥).
            λ d. set_only num ns k _ p i d a ne ∙ c d
            ∙ amend-cell l r x x refl (cell num l x r) refl
            ∙ ap (λ z. cell num (amend k h l) z (amend k h r)) (sym (cond-false _ _ _ (ne_eqb i k ne))))
            (cases_eq i k),
        amend-holds l L,
        amend-holds r R,
      )

      pub amend-held : (root : ℕ) (t : RuleTree A) → Held num ns root t → Held num after root (amend k h t)
      amend-held root t H = record { here = amend-link t ∙ H.here; holds = amend-holds t H.holds; apart = λ j. omega (arith, amend-uses j t, H.apart j) }

pub look_used : {X : Type 0} (lt : X → X → Bool) (x : X) (k : ℕ) (t : Tree X) → look lt x t ≡ k → 0 < k → 0 < uses k t
look_used lt x k leaf e p = absurd (omega arith)
look_used lt x k (node l i y r) e p = by (lt x y) (lt y x) e (λ q. look_used lt x k l q p) (λ q. look_used lt x k r q p)
  where
    by : (a b : Bool) → cond a (look lt x l) (cond b (look lt x r) i) ≡ k → (look lt x l ≡ k → 0 < uses k l) → (look lt x r ≡ k → 0 < uses k r) → 0 < uses k l + uses k r + cond (eqb i k) 1 0
    by true b e f g = omega (arith, f e)
    by false true e f g = omega (arith, g e)
    by false false e f g = omega (arith, ap (λ (m : ℕ). cond {A = ℕ} (eqb m k) 1 0) e, own k)

earlier-same : (v f r : Rule) → Earlier v f → Same r f → Earlier v r
earlier-same v f r e s = grind arith

module _ {A : Type 0} (num : A → ℕ) (x : Stored A) (k h : ℕ) (p : 0 < k) where
  pub amend-rules : (t : RuleTree A) → Canonical (rules_in num t) → ((j : ℕ) → uses j t ≤ 1) → look (before num) x t ≡ k → rules_in num (amend k h t) ≡ insert (rule (num x.start) (num x.finish) h) (rules_in num t)
  amend-rules leaf c a e = absurd (omega arith)
  amend-rules (node l i y r) c a e =
      let C = cut (rules_in num l) (numbered num y) (rules_in num r) c in
      by (before num x y) (before num y x) refl refl e C (λ q. amend-rules l C.left (λ j. omega (arith, a j)) q) (λ q. amend-rules r C.right (λ j. omega (arith, a j)) q)
    where
      by : (b d : Bool) → before num x y ≡ b → before num y x ≡ d → cond b (look (before num) x l) (cond d (look (before num) x r) i) ≡ k → Cut (rules_in num l) (numbered num y) (rules_in num r)
          → (look (before num) x l ≡ k → rules_in num (amend k h l) ≡ insert (rule (num x.start) (num x.finish) h) (rules_in num l))
          → (look (before num) x r ≡ k → rules_in num (amend k h r) ≡ insert (rule (num x.start) (num x.finish) h) (rules_in num r))
          → rules_in num (amend k h l) ++ (numbered num (cond (eqb i k) (with_hop y h) y) ∷ rules_in num (amend k h r)) ≡ insert (rule (num x.start) (num x.finish) h) (rules_in num l ++ (numbered num y ∷ rules_in num r))
      by true d b' d' e' C f g =
          let u = look_used (before num) x k l e' p in
          let o = a k in
          let n : eqb i k ≡ false = ne_eqb i k (λ q. omega (arith, ap (λ (m : ℕ). cond {A = ℕ} (eqb m k) 1 0) q, own k)) in
          ap (λ w. rules_in num (amend k h l) ++ (numbered num w ∷ rules_in num (amend k h r))) (cond-false _ (with_hop y h) y n)
          ∙ ap (λ w. rules_in num (amend k h l) ++ (numbered num y ∷ rules_in num w)) (amend_off k h r (omega arith))
          ∙ ap (λ w. w ++ (numbered num y ∷ rules_in num r)) (f e')
          ∙ sym (insert-left (rule (num x.start) (num x.finish) h) (numbered num y) (rules_in num l) (rules_in num r) (before_true (numbered num x) (numbered num y) b'))
      by false true b' d' e' C f g =
          let u = look_used (before num) x k r e' p in
          let o = a k in
          let n : eqb i k ≡ false = ne_eqb i k (λ q. omega (arith, ap (λ (m : ℕ). cond {A = ℕ} (eqb m k) 1 0) q, own k)) in
          ap (λ w. rules_in num (amend k h l) ++ (numbered num w ∷ rules_in num (amend k h r))) (cond-false _ (with_hop y h) y n)
          ∙ ap (λ w. rules_in num w ++ (numbered num y ∷ rules_in num (amend k h r))) (amend_off k h l (omega arith))
          ∙ ap (λ w. rules_in num l ++ (numbered num y ∷ w)) (g e')
          ∙ sym (insert_right (rule (num x.start) (num x.finish) h) (numbered num y) (rules_in num l) (rules_in num r) (before_true (numbered num y) (numbered num x) d') C.below)
      by false false b' d' e' C f g =
          let S = before_neither (numbered num x) (numbered num y) b' d' in
          let o = a k in
          let z : ◌≡◌ {A = ℕ} (cond (eqb i k) 1 0) 1 = ap (λ (m : ℕ). cond {A = ℕ} (eqb m k) 1 0) e' ∙ own k in
          let same : numbered num (with_hop y h) ≡ rule (num x.start) (num x.finish) h = λ j. record { start = sym S.0 j; finish = sym S.1 j; hop = h } in
          ap (λ w. rules_in num (amend k h l) ++ (numbered num w ∷ rules_in num (amend k h r))) (cond-true _ (with_hop y h) y (eq-eqb i k e'))
          ∙ ap (λ w. rules_in num w ++ (numbered num (with_hop y h) ∷ rules_in num (amend k h r))) (amend_off k h l (omega arith))
          ∙ ap (λ w. rules_in num l ++ (numbered num (with_hop y h) ∷ rules_in num w)) (amend_off k h r (omega arith))
          ∙ ap (λ w. rules_in num l ++ (w ∷ rules_in num r)) same
          ∙ sym (insert_replace (rule (num x.start) (num x.finish) h) (numbered num y) (rules_in num l) (rules_in num r) S (λ v q. earlier-same v (numbered num y) (rule (num x.start) (num x.finish) h) (C.below v q) S))
