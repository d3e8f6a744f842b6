-- The next boundary, and the walk over boundaries that decides the test at every address.
use Rattle.std.proofs.Common.{◌≡◌, ℕ, zero, suc, ◌+◌, ◌-◌, ◌<◌, ◌≤◌, min, leb, Bool, true, false, ◌&&◌, ltb, ◌⊎◌, List, [], ◌∷◌, Some, None, Decides, Option, sym, refl, ◌∙◌, inl, inr, arith}
use borrow.Author.Tests.{true-ltb, false-ltb}
use Rattle.std.proofs.lemmas.Bool.Decides.{nat_tests, same_from_decides}
use Rattle.std.proofs.lemmas.Bool.{and_parts, cases_lt, and_from, cond_both}
use Rattle.rules.specs.Rules.{Rule, In, covers, earlier}
use Rattle.rules.specs.Search.{best, closer}
use Rattle.rules.specs.Conflicts.{resolved_at, resolved_in, resolved_from, ResolvedAt, ResolvedIn}
use Rattle.rules.specs.Boundaries.{nearer, nearest, next_boundary, walk, Boundary, LeastBoundary}
use Rattle.rules.proofs.Conflicts.{resolved_at_decides, resolved_in_decides}

-- of the numbers above d that are addresses and have P, the least
abbrev pub LeastAbove : ℕ → ℕ → (ℕ → Type 0) → Option ℕ → Type 0
LeastAbove last d P None = (b : ℕ) → P b → d < b → b ≤ last → ⊥
LeastAbove last d P (Some e) = P e × (d < e) × (e ≤ last) × ((b : ℕ) → P b → d < b → b ≤ last → e ≤ b)

-- the least with P is the least with Q, where a P stands before each Q
pub least_like : (last d : ℕ) (P Q : ℕ → Type 0) → ((b : ℕ) → P b → Q b) → ((b : ℕ) → Q b → d < b → (z : ℕ) × (P z × (d < z) × (z ≤ b))) → (o : Option ℕ) → LeastAbove last d P o → LeastAbove last d Q o
least_like last d P Q f g None a = λ b q w l. let z = g b q w in a z.0 z.1.0 z.1.1 (omega arith)
least_like last d P Q f g (Some e) a = (f e a.0, a.1, a.2, λ b q w l. let z = g b q w in let k = a.3 z.0 z.1.0 z.1.1 (omega arith) in omega arith)

pub least_nearest : (last d : ℕ) (P : ℕ → Type 0) (b : ℕ) (o : Option ℕ) → LeastAbove last d P o → LeastAbove last d (λ y. P y ⊎ (y ≡ b)) (nearest last d b o)
least_nearest last d P b o a =
    cond_both (ltb d b && leb b last) (Some (nearer b o)) o (LeastAbove last d (λ y. P y ⊎ (y ≡ b))) (λ t. near o a (grind (arith, nat_tests)) (grind (arith, nat_tests))) (λ t. far o a (λ w l. grind (arith, nat_tests)))
  where
    near : (o : Option ℕ) → LeastAbove last d P o → d < b → b ≤ last → LeastAbove last d (λ y. P y ⊎ (y ≡ b)) (Some (nearer b o))
    near None a w l = (inr refl, w, l, λ y h p k. elim h [ inl x ↦ absurd (a y x p k) | inr x ↦ omega arith ])
    near (Some e) a w l = (
      elim (cases_lt e b) [ inl z ↦ let m : min b e ≡ e = omega arith in inl (rw m a.0) | inr z ↦ inr (omega arith) ],
      omega (arith, a.1),
      omega arith,
      λ y h p k. elim h [ inl x ↦ let f = a.3 y x p k in omega arith | inr x ↦ omega arith ],
    )

    far : (o : Option ℕ) → LeastAbove last d P o → (d < b → b ≤ last → ⊥) → LeastAbove last d (λ y. P y ⊎ (y ≡ b)) o
    far None a n = λ y h p k. elim h [ inl x ↦ a y x p k | inr x ↦ n (omega arith) (omega arith) ]
    far (Some e) a n = (inl a.0, a.1, a.2, λ y h p k. elim h [ inl x ↦ a.3 y x p k | inr x ↦ absurd (n (omega arith) (omega arith)) ])

pub boundary_above : (last : ℕ) (R : List Rule) (d : ℕ) → LeastAbove last d (Boundary R) (next_boundary last R d)
unfolding next_boundary
boundary_above last [] d = λ b q w l. q.1.0
boundary_above last (x ∷ xs) d =
    let o = nearest last d (suc x.finish) (next_boundary last xs d) in
    least_like last d (λ y. (Boundary xs y ⊎ (y ≡ suc x.finish)) ⊎ (y ≡ x.start)) (Boundary (x ∷ xs)) to (λ b q w. (b, (from b q, w, omega arith))) (nearest last d x.start o)
    (least_nearest last d (λ y. Boundary xs y ⊎ (y ≡ suc x.finish)) x.start o (least_nearest last d (Boundary xs) (suc x.finish) (next_boundary last xs d) (boundary_above last xs d)))
  where
    to : (b : ℕ) → (Boundary xs b ⊎ (b ≡ suc x.finish)) ⊎ (b ≡ x.start) → Boundary (x ∷ xs) b
    to b (inl (inl q)) = (q.0, (inr q.1.0, q.1.1))
    to b (inl (inr e)) = (x, (inl refl, inr e))
    to b (inr e) = (x, (inl refl, inl e))

    from : (b : ℕ) → Boundary (x ∷ xs) b → (Boundary xs b ⊎ (b ≡ suc x.finish)) ⊎ (b ≡ x.start)
    from b q = elim q.1.0 [ inl e ↦ elim q.1.1 [ inl a ↦ inr (cc) | inr a ↦ inl (inr (cc)) ] | inr m ↦ inl (inl (q.0, (m, q.1.1))) ]

pub boundary_least : (last : ℕ) (R : List Rule) (d : ℕ) → LeastBoundary last R d (next_boundary last R d)
boundary_least last R d = go (next_boundary last R d) (boundary_above last R d)
  where
    go : (o : Option ℕ) → LeastAbove last d (Boundary R) o → LeastBoundary last R d o
    go None a = a
    go (Some e) a = a

-- where the stretch from d ends, first address past it
abbrev pub upto : ℕ → Option ℕ → ℕ
upto last None = suc last
upto last (Some e) = e

past : (last : ℕ) (R : List Rule) (d : ℕ) (o : Option ℕ) → LeastAbove last d (Boundary R) o → d ≤ last → d < upto last o
past last R d None a h = omega arith
past last R d (Some e) a h = a.1

-- what covers is the same before the next boundary, so all is the same
pub covers-same : (last : ℕ) (R : List Rule) (d k : ℕ) (o : Option ℕ) → LeastAbove last d (Boundary R) o → d ≤ k → k < upto last o → (r : Rule) → In r R → covers r d ≡ covers r k
covers-same last R d k None a h l r i = let p = a r.start (r, (i, inl refl)) in let q = a (suc r.finish) (r, (i, inr refl)) in grind (arith, nat_tests)
covers-same last R d k (Some e) a h l r i = let p = a.3 r.start (r, (i, inl refl)) in let q = a.3 (suc r.finish) (r, (i, inr refl)) in let m = a.2 in grind (arith, nat_tests)

pub best-same : (lt : Rule → Rule → Bool) (p q : Rule → Bool) (R : List Rule) → ((r : Rule) → In r R → p r ≡ q r) → best lt p R ≡ best lt q R
unfolding best
best-same lt p q [] h = refl
best-same lt p q (x ∷ xs) h = rw (h x (inl refl), best-same lt p q xs (λ r i. h r (inr i)))

-- one test decides the whole stretch
stretch : (last : ℕ) (R : List Rule) (d k : ℕ) → d ≤ k → k < upto last (next_boundary last R d) → resolved_at R d ≡ resolved_at R k
stretch last R d k a b =
    let c = covers-same last R d k (next_boundary last R d) (boundary_above last R d) a b in
    rw (best-same earlier (λ r. covers r d) (λ r. covers r k) R c, best-same closer (λ r. covers r d) (λ r. covers r k) R c)

-- one step of the walk over [d, v], whose boundaries may be sought up to any last from v on
pub resolved_step : (last : ℕ) (R : List Rule) (d v : ℕ) → d ≤ v → v ≤ last
    → resolved_in R d v ≡ (resolved_at R d && elim (next_boundary last R d) [ None ↦ true | Some e ↦ resolved_in R e v ])
resolved_step last R d v h l =
    same_from_decides _ _ (resolved_in_decides R d v) (go (next_boundary last R d) (λ e k a b. (resolved_at_decides R k).0 (sym (stretch last R d k a b) ∙ e)) (past last R d (next_boundary last R d) (boundary_above last R d) (omega arith)))
  where
    go : (o : Option ℕ) → (resolved_at R d ≡ true → (k : ℕ) → d ≤ k → k < upto last o → ResolvedAt R k) → d < upto last o
        → Decides (resolved_at R d && elim o [ None ↦ true | Some e ↦ resolved_in R e v ]) (ResolvedIn R d v)
    go None s p = ((λ e k a b. s (and_parts (resolved_at R d) true e).0 k a (omega arith)), λ f. and_from (resolved_at R d) true ((resolved_at_decides R d).1 (f d (omega arith) h)) refl)
    go (Some e) s p = (
      (λ q k a b. elim (cases_lt k e) [ inl c ↦ s (and_parts (resolved_at R d) (resolved_in R e v) q).0 k a c | inr c ↦ (resolved_in_decides R e v).0 (and_parts (resolved_at R d) (resolved_in R e v) q).1 k c b ]),
      λ f. and_from (resolved_at R d) (resolved_in R e v) ((resolved_at_decides R d).1 (f d (omega arith) h)) ((resolved_in_decides R e v).1 (λ k a b. f k (omega arith) b)),
    )

-- so the walk is the test at every address
walk_same : (n : ℕ) (R : List Rule) (d v : ℕ) → d ≤ v → v < d + n → walk n R d v ≡ resolved_in R d v
unfolding walk
walk_same zero R d v h l = absurd (omega arith)
walk_same (suc n) R d v h l = go (next_boundary v R d) (boundary_above v R d) (λ e w k. walk_same n R e v k (omega arith)) ∙ sym (resolved_step v R d v h (omega arith))
  where
    go : (o : Option ℕ) → LeastAbove v d (Boundary R) o → ((e : ℕ) → d < e → e ≤ v → walk n R e v ≡ resolved_in R e v)
        → (resolved_at R d && elim o [ None ↦ true | Some e ↦ walk n R e v ]) ≡ (resolved_at R d && elim o [ None ↦ true | Some e ↦ resolved_in R e v ])
    go None a ih = refl
    go (Some e) a ih = rw (ih e a.1 a.2)

pub walk_decides : (n : ℕ) (R : List Rule) (d v : ℕ) → d ≤ v → v < d + n → Decides (walk n R d v) (ResolvedIn R d v)
walk_decides n R d v h l = rw (walk_same n R d v h l) (resolved_in_decides R d v)

-- the four ways of a turn, each in the words that the code's tests and answers give
module _ (last : ℕ) (R : List Rule) (u d v : ℕ) (inv : resolved_in R u v ≡ resolved_in R d v) (l : v ≤ last) where
  pub walk_past : true ≡ ltb v d → true ≡ resolved_in R u v
  unfolding resolved_in resolved_from
  walk_past t = let h : v < d = true-ltb v d t in let z : suc v - d ≡ 0 = omega arith in let e : resolved_in R d v ≡ true = rw z in sym (inv ∙ e)

  pub walk_clash : false ≡ ltb v d → false ≡ resolved_at R d → false ≡ resolved_in R u v
  walk_clash t c = let h = false-ltb v d t in sym (rw (inv, resolved_step last R d v h l, ← c))

  pub walk_done : false ≡ ltb v d → true ≡ resolved_at R d → None ≡ next_boundary last R d → true ≡ resolved_in R u v
  walk_done t c a = let h = false-ltb v d t in sym (rw (inv, resolved_step last R d v h l, ← c, ← a))

  pub walk_on : (e : ℕ) → false ≡ ltb v d → true ≡ resolved_at R d → Some e ≡ next_boundary last R d → resolved_in R u v ≡ resolved_in R e v
  walk_on e t c a = let h = false-ltb v d t in rw (inv, resolved_step last R d v h l, ← c, ← a)

pub walk_moves : (last : ℕ) (R : List Rule) (d e : ℕ) → d ≤ last → Some e ≡ next_boundary last R d → d < e
walk_moves last R d e h a = rw (← a) at (past last R d (next_boundary last R d) (boundary_above last R d) h)
