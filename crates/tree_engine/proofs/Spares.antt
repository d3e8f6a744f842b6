-- Free nodes: one is taken, one is given back, and a full tree has none.
use Rattle.std.proofs.Common.{◌≡◌, ℕ, ◌+◌, ◌-◌, ◌<◌, ◌≤◌, min, cond, eqb, leb, List, [], ◌∷◌, length, get_or, sym, refl, ap, ◌∙◌, arith}
use Rattle.std.proofs.lemmas.Bool.Decides.{nat_tests}
use Rattle.tree.specs.declared.node.Node.{Node}
use Rattle.tree.specs.Tree.{height, size, uses}
use Rattle.tree.specs.Nodes.{whole}
use Rattle.tree.proofs.Held.{own}
use Rattle.tree.proofs.Heights.{height_bound}
use Rattle.tree_engine.specs.declared.engine.Heads.{Heads}
use Rattle.tree_engine.specs.Kept.{front, Links, times, Shared, Kept}
use Rattle.tree_engine.proofs.Room.{rules-size, total, total_size, total_marks, total_below}

mark_le : (j n : ℕ) → cond (leb j n) 1 0 ≤ 1
mark_le j n = grind (arith, nat_tests)

module _ {A : Type 0} where
  -- the first of the chain stands in the row
  pub free_within : (ns : List (Node A)) (u : ℕ → ℕ) (free fresh : ℕ) → Shared ns u free fresh → free ≤ length ns
  free_within ns u free fresh S = go S.chain S.first S.links
    where
      go : (fs : List ℕ) → front fs ≡ free → Links ns fs → free ≤ length ns
      go [] q L = omega arith
      go (f ∷ fs) q L = omega (arith, L.1)

  -- where the chain is empty, the numbers up to the mark are in use
  none_spare : (ns : List (Node A)) (u : ℕ → ℕ) (free fresh : ℕ) → Shared ns u free fresh → free ≡ 0 → (j : ℕ) → 0 < j → u j ≡ cond (leb j fresh) 1 0
  none_spare ns u free fresh S z = go S.chain S.first S.links S.share
    where
      go : (fs : List ℕ) → front fs ≡ free → Links ns fs → ((j : ℕ) → 0 < j → u j + times j fs ≡ cond (leb j fresh) 1 0) → (j : ℕ) → 0 < j → u j ≡ cond (leb j fresh) 1 0
      go [] q L H j p = omega (arith, H j p)
      go (f ∷ fs) q L H j p = absurd (omega (arith, L.0))

  links-kept : (ns ms : List (Node A)) (fs : List ℕ) → length ms ≡ length ns → ((j : ℕ) (d : Node A) → 0 < j → 0 < times j fs → get_or ms (j - 1) d ≡ get_or ns (j - 1) d) → Links ns fs → Links ms fs
  links-kept ns ms [] q same L = tt
  links-kept ns ms (f ∷ fs) q same (p, w, c, L) =
      (p, omega arith, (λ d. ap (λ (m : Node A). m.left) (same f d p (omega (arith, own f))) ∙ c d), links-kept ns ms fs q (λ j d z u. same j d z (omega arith)) L)

  -- writes to nodes in use
  pub shared_kept : (ns ms : List (Node A)) (u v : ℕ → ℕ) (free fresh : ℕ) → length ms ≡ length ns → ((j : ℕ) → v j ≡ u j) → ((j : ℕ) (d : Node A) → 0 < j → v j ≡ 0 → get_or ms (j - 1) d ≡ get_or ns (j - 1) d) → Shared ns u free fresh → Shared ms v free fresh
  shared_kept ns ms u v free fresh q e same S =
      record {
        chain = S.chain;
        first = S.first;
        links = links-kept ns ms S.chain q (λ j d p w. same j d p (omega (arith, e j, S.share j p, mark_le j fresh))) S.links;
        share = λ j p. omega (arith, e j, S.share j p);
      }

  -- a node that is taken was not in use
  pub taken_off : (ns : List (Node A)) (u : ℕ → ℕ) (i free fresh : ℕ) → 0 < i → Shared ns (λ j. u j + cond (eqb i j) 1 0) free fresh → u i ≡ 0
  taken_off ns u i free fresh p S = omega (arith, S.share i p, own i, mark_le i fresh)

  -- a node is given back
  pub give_back : (ns ls : List (Node A)) (u v : ℕ → ℕ) (i free fresh : ℕ) → length ls ≡ length ns → 0 < i → i ≤ length ns → ((j : ℕ) → 0 < j → v j + cond (eqb i j) 1 0 ≡ u j)
      → ((j : ℕ) (d : Node A) → 0 < j → u j ≡ 0 → get_or ls (j - 1) d ≡ get_or ns (j - 1) d) → ((d : Node A) → (get_or ls (i - 1) d).left ≡ free) → Shared ns u free fresh → Shared ls v i fresh
  give_back ns ls u v i free fresh q p w e same linked S =
      record {
        chain = i ∷ S.chain;
        first = refl;
        links = (p, omega arith, (λ d. linked d ∙ sym S.first), links-kept ns ls S.chain q (λ j d z k. same j d z (omega (arith, S.share j z, mark_le j fresh))) S.links);
        share = λ j z. omega (arith, e j z, S.share j z);
      }

module _ {A : Type 0} (num : A → ℕ) (ns : List (Node A)) (h : Heads) (K : Kept num ns h) where
  counted-size : size (whole ns h.root) ≡ h.count
  counted-size = sym (rules-size num (whole ns h.root)) ∙ K.counted

  -- where the chain is empty, there are as many rules as the mark says
  pub all_used : h.spares.free ≡ 0 → h.spares.fresh ≡ h.count
  all_used z =
      let t = whole ns h.root in
      let a : total (length ns) t ≡ min (length ns) h.spares.fresh = total_marks (length ns) h.spares.fresh t (none_spare ns (λ j. uses j t) h.spares.free h.spares.fresh K.shared z) in
      let b : total (length ns) t ≡ size t = total_size num ns t K.held.holds in
      omega (arith, counted-size, K.within)

  pub few : h.count ≤ h.spares.fresh
  few =
      let t = whole ns h.root in
      let a : total (length ns) t ≤ min (length ns) h.spares.fresh = total_below (length ns) h.spares.fresh t (λ j p. omega (arith, K.shared.share j p)) in
      omega (arith, counted-size, total_size num ns t K.held.holds)

  pub low : height (whole ns h.root) < 63
  low = height_bound (whole ns h.root) K.balanced (omega (arith, counted-size, few, K.within))
