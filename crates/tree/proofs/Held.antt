-- Trees in a row of nodes: what a link shows, and which trees stand after a write.
use Rattle.std.proofs.Common.{◌≡◌, ℕ, ◌+◌, ◌-◌, ◌<◌, ◌≤◌, max, cond, eqb, ◌≢◌, List, length, get_or, set, sym, refl, ap, ◌∙◌, arith}
use Rattle.std.proofs.lemmas.Bool.{eq-eqb}
use Rattle.std.proofs.lemmas.List.{get_or-set_same, get_or-set_other, length-set}
use Rattle.rules.specs.declared.rule.Rule.{Rule as Stored}
use Rattle.tree.specs.declared.node.Node.{Node}
use Rattle.tree.specs.Tree.{RuleTree, leaf, node, link, height, uses}
use Rattle.tree.specs.Nodes.{low_with, cell, Holds, Held, Shows, Opened, Parted, Parts, Only}

-- a node's own number
pub own : (i : ℕ) → ◌≡◌ {A = ℕ} (cond (eqb i i) 1 0) 1
own i = ap (λ b. cond b 1 0) (eq-eqb i i refl)

pub not_own : (i j : ℕ) → ◌≡◌ {A = ℕ} (cond (eqb i j) 1 0) 0 → j ≡ i → ⊥
not_own i j z q = omega (arith, z, ap (λ (m : ℕ). cond {A = ℕ} (eqb m j) 1 0) (sym q), own j)

module _ {A : Type 0} (num : A → ℕ) where
  pub parted : (ns : List (Node A)) (k : ℕ) (n : Node A) (t : RuleTree A) → Held num ns k t → Shows num t k n → Parted num t k n (Held num ns n.left) (Held num ns n.right)
  parted ns k n leaf H S = absurd S
  parted ns k n (node l i x r) H (q, c) =
      record {
        lower = l;
        upper = r;
        is = λ y. node l (sym q y) (sym c y).rule r;
        some = omega (arith, H.holds.0);
        low = ap (λ (m : Node A). m.low) c ∙ sym (ap (λ (m : Node A). low_with num l (low_with num r m.rule.start)) c);
        below = record { here = ap (λ (m : Node A). m.left) (sym c); holds = H.holds.3; apart = λ j. omega (arith, H.apart j) };
        above = record { here = ap (λ (m : Node A). m.right) (sym c); holds = H.holds.4; apart = λ j. omega (arith, H.apart j) };
      }

  pub none : (ns : List (Node A)) → Held num ns 0 leaf
  none ns = record { here = refl; holds = tt; apart = λ j. omega arith }

  pub empty_is : (ns : List (Node A)) (k : ℕ) (t : RuleTree A) → Held num ns k t → k ≡ 0 → t ≡ leaf
  empty_is ns k leaf H q = refl
  empty_is ns k (node l i x r) H q = absurd (omega (arith, H.here, H.holds.0))

  pub link-within : (ns : List (Node A)) (k : ℕ) (t : RuleTree A) → Held num ns k t → k ≤ length ns
  link-within ns k leaf H = omega (arith, H.here)
  link-within ns k (node l i x r) H = omega (arith, H.here, H.holds.1)

  pub opened : (ns : List (Node A)) (k : ℕ) (n : Node A) (t : RuleTree A) → Held num ns k t → Shows num t k n → Opened num ns k t (record { node = k; rule = n.rule; left = n.left; right = n.right })
  opened ns k n t H S =
      let P = parted ns k n t H S in
      record { lower = P.lower; upper = P.upper; is = P.is; here = refl; below = P.below; above = P.above; some = P.some; within = link-within ns k t H }

  pub tall_link : (ns : List (Node A)) (k : ℕ) (t : RuleTree A) → Held num ns k t → 0 < height t → 0 < k
  tall_link ns k leaf H h = absurd (omega arith)
  tall_link ns k (node l i x r) H h = omega (arith, H.here, H.holds.0)

  -- a tree whose places are as they were stands
  holds_kept : (ns ms : List (Node A)) (t : RuleTree A) → length ms ≡ length ns → ((j : ℕ) (d : Node A) → 0 < j → 0 < uses j t → get_or ms (j - 1) d ≡ get_or ns (j - 1) d) → Holds num ns t → Holds num ms t
  holds_kept ns ms leaf q same H = tt
  holds_kept ns ms (node l i x r) q same (p, h, c, L, R) = (
    p,
    omega arith,
    (λ d. same i d p (omega (arith, own i)) ∙ c d),
    holds_kept ns ms l q (λ j d z u. same j d z (omega arith)) L,
    holds_kept ns ms r q (λ j d z u. same j d z (omega arith)) R,
  )

  pub held_kept : (ns ms : List (Node A)) (k : ℕ) (t : RuleTree A) → length ms ≡ length ns → ((j : ℕ) (d : Node A) → 0 < j → 0 < uses j t → get_or ms (j - 1) d ≡ get_or ns (j - 1) d) → Held num ns k t → Held num ms k t
  held_kept ns ms k t q same H = record { here = H.here; holds = holds_kept ns ms t q same H.holds; apart = H.apart }

  -- a write to a place that the tree does not use
  pub held_only : (ns ms : List (Node A)) (k i : ℕ) (t : RuleTree A) → length ms ≡ length ns → Only i ns ms → uses i t ≡ 0 → Held num ns k t → Held num ms k t
  held_only ns ms k i t q only off H = held_kept ns ms k t q (λ j d z u. only j d z (λ e. let w : uses j t ≡ 0 = ap (λ m. uses m t) e ∙ off in omega arith)) H

  pub set_only : (ns : List (Node A)) (i : ℕ) (n : Node A) → 0 < i → Only i ns (set ns (i - 1) n)
  set_only ns i n p j d z ne = let other : j - 1 ≢ i - 1 = λ q. ne (omega arith) in get_or-set_other ns (i - 1) (j - 1) n d other

  pub cell_is : (l r : RuleTree A) (x : Stored A) (low : A) (left right h : ℕ) → low ≡ low_with num l (low_with num r x.start) → left ≡ link l → right ≡ link r → h ≡ max (height l) (height r) + 1
      → ◌≡◌ {A = Node A} (record { rule = x; low = low; left = left; right = right; height = h }) (cell num l x r)
  cell_is l r x low left right h p q s u = λ i. record { rule = x; low = p i; left = q i; right = s i; height = u i }

  -- what one write makes
  pub join_wrote : (ns : List (Node A)) (i left right : ℕ) (l r : RuleTree A) (x : Stored A) (n : Node A) → n ≡ cell num l x r → Parts num ns i left right l r → Held num (set ns (i - 1) n) i (node l i x r)
  join_wrote ns i left right l r x n c P =
      let ms = set ns (i - 1) n in
      let q : length ms ≡ length ns = length-set ns (i - 1) n in
      let off : uses i l + uses i r ≡ 0 = omega (arith, P.apart i, own i) in
      let only : Only i ns ms = set_only ns i n P.some in
      let lt : i - 1 < length ns = omega (arith, P.some, P.within) in
      record {
        here = refl;
        holds = (
          P.some,
          omega (arith, P.within),
          (λ d. get_or-set_same ns (i - 1) n d lt ∙ c),
          (held_only ns ms left i l q only (omega arith) P.lower).holds,
          (held_only ns ms right i r q only (omega arith) P.upper).holds,
        );
        apart = P.apart;
      }
