-- The next boundary from two searches by finish, one of them in the mirrored set.
use Rattle.std.proofs.Common.{◌≡◌, ℕ, suc, ◌-◌, ◌<◌, ◌≤◌, cond, ltb, leb, ◌⊎◌, List, [], ◌∷◌, Some, None, Option, refl, ap, ◌∙◌, inl, inr, arith}
use Rattle.std.specs.Option.{option_map}
use Rattle.std.proofs.lemmas.Bool.{cond_both, ltb-true, ltb-false, leb-true, leb-false}
use Rattle.rules.specs.Rules.{Rule, In, Canonical, Bounded}
use Rattle.rules.specs.Boundaries.{Boundary, next_boundary}
use Rattle.rules.proofs.Members.{well_formed}
use Rattle.rules.proofs.Boundaries.{LeastAbove, least_like, least_nearest, boundary_above}
use Rattle.mirror.specs.Mirrored.{mirror, mirrored, or_else, finish_from, finish_before, nearest_of, behind}
use Rattle.mirror.proofs.Mirrors.{in_mirrored, mirrored_in, mirrored-canonical}

least_one : (last d : ℕ) (P : ℕ → Type 0) (o q : Option ℕ) → LeastAbove last d P o → LeastAbove last d P q → o ≡ q
least_one last d P None None a b = refl
least_one last d P None (Some e) a b = absurd (a e b.0 b.1 b.2)
least_one last d P (Some e) None a b = absurd (b e a.0 a.1 a.2)
least_one last d P (Some e) (Some f) a b = let p = a.3 f b.0 b.1 b.2 in let q = b.3 e a.0 a.1 a.2 in let z : e ≡ f = omega arith in ap Some z

abbrev Is : Option ℕ → ℕ → Type 0
Is None y = ⊥
Is (Some b) y = y ≡ b

least_nearest_of : (last d : ℕ) (P : ℕ → Type 0) (b o : Option ℕ) → LeastAbove last d P o → LeastAbove last d (λ y. P y ⊎ Is b y) (nearest_of last d b o)
least_nearest_of last d P None o a = least_like last d P (λ y. P y ⊎ ⊥) (λ y p. inl p) (λ y p w. elim p [ inl x ↦ (y, (x, w, omega arith)) | inr n ↦ absurd n ]) o a
least_nearest_of last d P (Some b) o a = least_nearest last d P b o a

-- the next address after a finish
abbrev Ends : List Rule → ℕ → Type 0
Ends R e = (r : Rule) × (In r R × (e ≡ suc r.finish))

ends : (last : ℕ) (R : List Rule) (d : ℕ) → Canonical R → LeastAbove last d (Ends R) (nearest_of last d (behind (finish_from R d)) None)
unfolding finish_from
ends last [] d c = λ y q w l. q.1.0
ends last (x ∷ xs) d c =
    cond_both (leb d x.finish) (Some x.finish) (finish_from xs d) (λ o. LeastAbove last d (Ends (x ∷ xs)) (nearest_of last d (behind o) None))
    (λ t.
    least_like last d (λ y. ⊥ ⊎ (y ≡ suc x.finish)) (Ends (x ∷ xs)) (λ y p. elim p [ inl n ↦ absurd n | inr e ↦ (x, (inl refl, e)) ])
    (λ y q w. (suc x.finish, (inr refl, omega (arith, leb-true d x.finish t), elim q.1.0 [ inl e ↦ omega (arith, q.1.1, ap (λ (r : Rule). r.finish) e) | inr m ↦ omega (arith, q.1.1, c.1 q.0 m) ])))
    (nearest_of last d (Some (suc x.finish)) None) (least_nearest last d (λ _. ⊥) (suc x.finish) None (λ y n w l. n)))
    (λ t.
    least_like last d (Ends xs) (Ends (x ∷ xs)) (λ y q. (q.0, (inr q.1.0, q.1.1)))
    (λ y q w. elim q.1.0 [ inl e ↦ absurd (omega (arith, q.1.1, ap (λ (r : Rule). r.finish) e, leb-false d x.finish t)) | inr m ↦ (y, ((q.0, (m, q.1.1)), w, omega arith)) ])
    (nearest_of last d (behind (finish_from xs d)) None) (ends last xs d c.2))

-- what the last finish before d is
abbrev Before : List Rule → ℕ → Option ℕ → Type 0
Before R d None = (s : Rule) → In s R → d ≤ s.finish
Before R d (Some f) = ((r : Rule) × (In r R × (f ≡ r.finish))) × (f < d) × ((s : Rule) → In s R → s.finish < d → s.finish ≤ f)

before_is : (R : List Rule) (d : ℕ) → Canonical R → Before R d (finish_before R d)
unfolding finish_before
before_is [] d c = λ s i. elim i [ ]
before_is (x ∷ xs) d c = on (finish_before xs d) (before_is xs d c.2)
  where
    on : (o : Option ℕ) → Before xs d o → Before (x ∷ xs) d (or_else o (cond (ltb x.finish d) (Some x.finish) None))
    on None a =
        cond_both (ltb x.finish d) (Some x.finish) None (λ o. Before (x ∷ xs) d o)
        (λ t. ((x, (inl refl, refl)), ltb-true x.finish d t, λ s i h. let f = a s in grind arith))
        (λ t. λ s i. let z = ltb-false x.finish d t in let f = a s in grind arith)
    on (Some f) a = ((a.0.0, (inr a.0.1.0, a.0.1.1)), a.1, λ s i h. let g = c.1 a.0.0 a.0.1.0 in let k = a.2 s in grind arith)

module _ (last : ℕ) (R : List Rule) (d : ℕ) (c : Canonical R) (b : Bounded last R) (h : d ≤ last) where
  boundaries : (o q : Option ℕ) → Before (mirrored last R) (last - d) o → LeastAbove last d (λ y. Ends R y ⊎ Is (option_map (λ f. last - f) o) y) q → LeastAbove last d (Boundary R) q
  boundaries None q f a =
      least_like last d (λ y. Ends R y ⊎ ⊥) (Boundary R) (λ y p. elim p [ inl n ↦ (n.0, (n.1.0, inr n.1.1)) | inr n ↦ absurd n ])
      (λ y p w.
      let g = f (mirror last p.0) (mirrored_in last R c b p.0 p.1.0) in
      let s = well_formed R c p.0 p.1.0 in
      let t = b p.0 p.1.0 in
      elim p.1.1 [ inl e ↦ absurd (omega arith) | inr e ↦ (y, (inl (p.0, (p.1.0, e)), w, omega arith)) ])
      q a
  boundaries (Some g) q f a =
      let m = in_mirrored last R f.0.0 f.0.1.0 in
      let s = well_formed R c m.0 m.1.0 in
      let t = b m.0 m.1.0 in
      let k : g ≡ last - m.0.start = f.0.1.1 ∙ ap (λ (y : Rule). y.finish) m.1.1 in
      let z : last - g ≡ m.0.start = omega arith in
      least_like last d (λ y. Ends R y ⊎ (y ≡ last - g)) (Boundary R) (λ y p. elim p [ inl n ↦ (n.0, (n.1.0, inr n.1.1)) | inr n ↦ (m.0, (m.1.0, inl (n ∙ z))) ])
      (λ y p w.
      let v = f.2 (mirror last p.0) (mirrored_in last R c b p.0 p.1.0) in
      let s' = well_formed R c p.0 p.1.0 in
      let t' = b p.0 p.1.0 in
      elim p.1.1 [ inl e ↦ (last - g, (inr refl, omega (arith, f.1), let v' = v (omega arith) in omega arith)) | inr e ↦ (y, (inl (p.0, (p.1.0, e)), w, omega arith)) ])
      q a

  pub next_boundary-mirrored : next_boundary last R d ≡ nearest_of last d (option_map (λ f. last - f) (finish_before (mirrored last R) (last - d))) (nearest_of last d (behind (finish_from R d)) None)
  next_boundary-mirrored =
      let o = finish_before (mirrored last R) (last - d) in
      let e = nearest_of last d (behind (finish_from R d)) None in
      let q = nearest_of last d (option_map (λ f. last - f) o) e in
      least_one last d (Boundary R) (next_boundary last R d) q (boundary_above last R d)
      (boundaries o q (before_is (mirrored last R) (last - d) (mirrored-canonical last R c b)) (least_nearest_of last d (Ends R) (option_map (λ f. last - f) o) e (ends last R d c)))
