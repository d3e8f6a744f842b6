-- What a tree is after a rule entered, left or got another hop.
use Rattle.std.proofs.Common.{◌≡◌, ℕ, ◌+◌, ◌-◌, ◌<◌, ◌≤◌, true, false, cond, eqb, List, [], length, get_or, is_some, Some, sym, refl, ap, ◌∙◌, subst, arith}
use Rattle.std.proofs.lemmas.List.{length-set}
use Rattle.std.proofs.lemmas.List.Edits.{length-remove}
use Rattle.std.proofs.lemmas.Bool.{both_ways}
use Rattle.std.proofs.lemmas.Bool.Decides.{nat_tests}
use Rattle.rules.specs.declared.rule.Rule.{Rule as Stored}
use Rattle.rules.specs.Rules.{Rule, rule, Absent, Canonical, insert, delete, hop_of, ordered}
use Rattle.rules.specs.Answers.{numbered, place_of}
use Rattle.rules.proofs.Members.{in_hop, insert-canonical, delete-canonical}
use Rattle.rules.proofs.Places.{ordered_decides, place_set, place-delete}
use Rattle.mirror.proofs.Mirrors.{insert-length}
use Rattle.tree.specs.declared.node.Node.{Node}
use Rattle.tree.specs.Tree.{height, uses, rules_in, before, look, Balanced}
use Rattle.tree.specs.Nodes.{Held, Only, Beyond, whole}
use Rattle.tree.proofs.Held.{own, held_only, none}
use Rattle.tree.proofs.Heights.{whole_is, whole_none}
use Rattle.tree_edits.specs.Edits.{grow, prune, amend}
use Rattle.tree_edits.proofs.Grows.{grow_keeps, grow-uses, grow-rules}
use Rattle.tree_edits.proofs.Prunes.{prune_keeps, prune-uses, prune-rules}
use Rattle.tree_edits.proofs.Amends.{amend-height, amend-uses, amend_keeps, amend-rules, look_used}
use Rattle.tree_engine.specs.declared.engine.Heads.{Heads}
use Rattle.tree_engine.specs.Kept.{Shared, Kept, rules_at}
use Rattle.rules.specs.Answers.{capped}
use Rattle.tree_engine.proofs.Spares.{shared_kept, give_back}
use Rattle.tree_engine.proofs.Seal.{Stands}

-- a range without a hop is absent
absent_from : (R : List Rule) (r : Rule) → Canonical R → is_some (hop_of R r.start r.finish) ≡ false → Absent r R
absent_from R r c e s i q =
    let h : hop_of R r.start r.finish ≡ Some s.hop = ap (λ a. hop_of R a r.finish) q.0 ∙ ap (λ b. hop_of R s.start b) q.1 ∙ in_hop R c s i in
    both_ways (is_some (hop_of R r.start r.finish)) e (ap is_some h)

-- an empty tree
pub new_rules : {A : Type 0} (num : A → ℕ) (ns : List (Node A)) → rules_in num (whole ns 0) ≡ []
new_rules num ns = ap (rules_in num) (whole_none ns)

pub new_kept : {A : Type 0} (num : A → ℕ) (ns : List (Node A)) → Kept num ns (record { root = 0; spares = record { free = 0; fresh = 0 }; count = 0 })
unfolding ordered
new_kept num ns =
    let e = whole_none ns in
    record {
      held = subst (λ t. Held num ns 0 t) (sym e) (none num ns);
      balanced = subst Balanced (sym e) tt;
      order = subst (λ t. ordered (rules_in num t) ≡ true) (sym e) refl;
      counted = ap (λ t. length (rules_in num t)) e;
      shared = record { chain = []; first = refl; links = tt; share = λ j p. ap (λ t. uses j t + 0) e ∙ grind (arith, nat_tests) };
      within = omega arith;
    }

-- a rule enters
module _ {A : Type 0} (num : A → ℕ) (ns ms : List (Node A)) (h : Heads) (i root : ℕ) (x : Stored A) (T : Stands num ns h)
    (forward : num x.start ≤ num x.finish) (absent : is_some (hop_of (rules_at num ns h) (num x.start) (num x.finish)) ≡ false)
    (M : Held num ms root (grow (before num) (whole ns h.root) i x)) where
  grown : Balanced (grow (before num) (whole ns h.root) i x) × (height (whole ns h.root) ≤ height (grow (before num) (whole ns h.root) i x)) × (height (grow (before num) (whole ns h.root) i x) ≤ height (whole ns h.root) + 1)
  grown = grow_keeps (before num) (whole ns h.root) i x T.balanced

  grown_is : whole ms root ≡ grow (before num) (whole ns h.root) i x
  grown_is = whole_is num ms root (grow (before num) (whole ns h.root) i x) M (omega (arith, grown.2, T.low))

  pub enter_rules : rules_in num (whole ms root) ≡ insert (numbered num x) (rules_at num ns h)
  enter_rules = ap (rules_in num) grown_is ∙ grow-rules num (whole ns h.root) i x T.canonical (absent_from (rules_at num ns h) (numbered num x) T.canonical absent)

  pub enter_keeps : length ms ≡ length ns → (free fresh : ℕ) → Shared ns (λ j. uses j (whole ns h.root) + cond (eqb i j) 1 0) free fresh → fresh ≤ capped (length ns) → Beyond (grow (before num) (whole ns h.root) i x) ns ms
      → Kept num ms (record { root = root; spares = record { free = free; fresh = fresh }; count = h.count + 1 })
  enter_keeps q free fresh S w B =
      let t = whole ns h.root in
      record {
        held = subst (λ u. Held num ms root u) (sym grown_is) M;
        balanced = subst Balanced (sym grown_is) grown.0;
        order = ap ordered enter_rules ∙ (ordered_decides (insert (numbered num x) (rules_at num ns h))).1 (insert-canonical (numbered num x) (rules_at num ns h) forward T.canonical);
        counted = ap length enter_rules ∙ insert-length (numbered num x) (rules_at num ns h) absent ∙ omega (arith, T.counted);
        shared = shared_kept ns ms (λ j. uses j t + cond (eqb i j) 1 0) (λ j. uses j (whole ms root)) free fresh q (λ j. ap (λ v. uses j v) grown_is ∙ grow-uses (before num) t i x j) (λ j d p z. B j d p (ap (λ v. uses j v) (sym grown_is) ∙ z)) S;
        within = omega arith;
      }

-- a rule gets another hop
module _ {A : Type 0} (num : A → ℕ) (ns ms : List (Node A)) (h : Heads) (k hop : ℕ) (x : Stored A) (T : Stands num ns h) (is : k ≡ look (before num) x (whole ns h.root)) (p : 0 < k)
    (M : Held num ms h.root (amend k hop (whole ns h.root))) where
  amended_is : whole ms h.root ≡ amend k hop (whole ns h.root)
  amended_is = whole_is num ms h.root (amend k hop (whole ns h.root)) M (omega (arith, amend-height k hop (whole ns h.root), T.low))

  pub amend-rules_at : rules_in num (whole ms h.root) ≡ insert (rule (num x.start) (num x.finish) hop) (rules_at num ns h)
  amend-rules_at = ap (rules_in num) amended_is ∙ amend-rules num x k hop p (whole ns h.root) T.canonical T.held.apart (sym is)

  pub amend-kept : Kept num ns h → num x.start ≤ num x.finish → is_some (hop_of (rules_at num ns h) (num x.start) (num x.finish)) ≡ true → length ms ≡ length ns → Only k ns ms → Kept num ms h
  amend-kept K forward there q only =
      let t = whole ns h.root in
      let R = rules_at num ns h in
      let s = place_set (num x.start) (num x.finish) hop R T.canonical there in
      record {
        held = subst (λ u. Held num ms h.root u) (sym amended_is) M;
        balanced = subst Balanced (sym amended_is) (amend_keeps k hop t T.balanced);
        order = ap ordered amend-rules_at ∙ (ordered_decides (insert (rule (num x.start) (num x.finish) hop) R)).1 (insert-canonical (rule (num x.start) (num x.finish) hop) R forward T.canonical);
        counted = ap length amend-rules_at ∙ ap length s.1 ∙ length-set R (place_of R (num x.start) (num x.finish)) (rule (num x.start) (num x.finish) hop) ∙ T.counted;
        shared = shared_kept ns ms (λ j. uses j t) (λ j. uses j (whole ms h.root)) h.spares.free h.spares.fresh q (λ j. ap (λ v. uses j v) amended_is ∙ amend-uses k hop j t)
            (λ j d z u. only j d z (λ e. let w = look_used (before num) x k t (sym is) p in omega (arith, u, ap (λ v. uses j v) amended_is, amend-uses k hop j t, ap (λ (m : ℕ). uses m t) e))) K.shared;
        within = omega (arith, K.within);
      }

-- a rule leaves
module _ {A : Type 0} (num : A → ℕ) (ns ms ls : List (Node A)) (h : Heads) (i root : ℕ) (x : Stored A) (T : Stands num ns h) (q : length ms ≡ length ns) (q' : length ls ≡ length ms)
    (is : i ≡ look (before num) x (whole ns h.root)) (p : 0 < i)
    (M : Held num ms root (prune (before num) x (whole ns h.root))) (only : Only i ms ls) where
  freed : (j : ℕ) → 0 < j → uses j (prune (before num) x (whole ns h.root)) + cond (eqb i j) 1 0 ≡ uses j (whole ns h.root)
  freed j z = ap (λ (m : ℕ). uses j (prune (before num) x (whole ns h.root)) + cond (eqb m j) 1 0) is ∙ prune-uses (before num) x j (whole ns h.root) z

  held_after : Held num ls root (prune (before num) x (whole ns h.root))
  held_after = held_only num ms ls root i (prune (before num) x (whole ns h.root)) q' only (omega (arith, freed i p, own i, T.held.apart i)) M

  pruned_is : whole ls root ≡ prune (before num) x (whole ns h.root)
  pruned_is = whole_is num ls root (prune (before num) x (whole ns h.root)) held_after (omega (arith, (prune_keeps (before num) x (whole ns h.root) T.balanced).1, T.low))

  pub leave_rules : rules_in num (whole ls root) ≡ delete (num x.start) (num x.finish) (rules_at num ns h)
  leave_rules = ap (rules_in num) pruned_is ∙ prune-rules num x (whole ns h.root) T.canonical

  pub leave_kept : Kept num ns h → is_some (hop_of (rules_at num ns h) (num x.start) (num x.finish)) ≡ true → i ≤ length ns → Beyond (whole ns h.root) ns ms → ((d : Node A) → (get_or ls (i - 1) d).left ≡ h.spares.free)
      → (free fresh : ℕ) → free ≡ i → fresh ≡ h.spares.fresh → Kept num ls (record { root = root; spares = record { free = free; fresh = fresh }; count = h.count - 1 })
  leave_kept K there w B linked free fresh a b =
      let t = whole ns h.root in
      let R = rules_at num ns h in
      let u = num x.start in
      let v = num x.finish in
      let less : length (delete u v R) + 1 ≡ length R = ap (λ S. length S + 1) (place-delete u v R T.canonical there) ∙ length-remove R (place_of R u v) (place_set u v 0 R T.canonical there).0 in
      record {
        held = subst (λ y. Held num ls root y) (sym pruned_is) held_after;
        balanced = subst Balanced (sym pruned_is) (prune_keeps (before num) x t T.balanced).0;
        order = ap ordered leave_rules ∙ (ordered_decides (delete u v R)).1 (delete-canonical u v R T.canonical);
        counted = ap length leave_rules ∙ omega (arith, less, T.counted);
        shared = rw (a, b) (give_back ns ls (λ j. uses j t) (λ j. uses j (whole ls root)) i h.spares.free h.spares.fresh (q' ∙ q) p w
            (λ j z. ap (λ y. uses j y + cond (eqb i j) 1 0) pruned_is ∙ freed j z)
            (λ j d z off. only j d z (λ e. omega (arith, ap (λ (m : ℕ). uses m t) e, freed i p, own i)) ∙ B j d z off)
            linked K.shared);
        within = omega (arith, K.within);
      }

pub some-rules : (R : List Rule) (u v : ℕ) → Canonical R → is_some (hop_of R u v) ≡ true → 0 < length R
some-rules R u v c e = omega (arith, (place_set u v 0 R c e).0)
