-- What stands in a mirrored set, and what insert and delete do to it.
use Rattle.std.proofs.Common.{◌≡◌, ℕ, suc, ◌-◌, ◌≤◌, false, List, [], ◌∷◌, length, cond, is_some, Some, None, Option, sym, refl, ap, ◌∙◌, subst, inl, inr, arith}
use Rattle.std.proofs.lemmas.Bool.{cond_both}
use Rattle.std.proofs.lemmas.Bool.Decides.{nat_tests}
use Rattle.rules.specs.Rules.{Rule, range, In, Covers, Same, Absent, Canonical, Bounded, earlier, same, insert, delete, hop_of}
use Rattle.rules.specs.Search.{Best, closer, least_finish, greatest_start}
use Rattle.rules.proofs.Members.{same_tells, in_same, in_insert_old, in_insert_new, in_insert_keep, insert-canonical, insert_again, insert_swap, delete_swap, well_formed, hop-insert}
use Rattle.rules.proofs.Conflicts.{least_finish_is, greatest_start_is}
use Rattle.mirror.specs.Mirrored.{mirror, mirrored, back, GreatestStartLaw}

-- a range that is absent has no hop
pub absent_hop : (R : List Rule) (u v : ℕ) → Absent (range u v) R → hop_of R u v ≡ None
unfolding hop_of
absent_hop [] u v a = refl
absent_hop (x ∷ xs) u v a = let ih = absent_hop xs u v (λ s i. a s (inr i)) in let n = a x (inl refl) in grind (arith, same_tells)

pub insert-length : (r : Rule) (R : List Rule) → is_some (hop_of R r.start r.finish) ≡ false → length (insert r R) ≡ suc (length R)
unfolding insert hop_of
insert-length r [] n = refl
insert-length r (x ∷ xs) n = let ih = insert-length r xs in grind (arith, nat_tests)

module _ (last : ℕ) where
  pub mirror-back : (r : Rule) → r.start ≤ last → r.finish ≤ last → mirror last (mirror last r) ≡ r
  mirror-back r s f = let a : last - (last - r.start) ≡ r.start = omega arith in let b : last - (last - r.finish) ≡ r.finish = omega arith in λ i. record { start = a i; finish = b i; hop = r.hop }

  start-bounded : (R : List Rule) → Canonical R → Bounded last R → (r : Rule) → In r R → r.start ≤ last
  start-bounded R c b r i = let w = well_formed R c r i in let f = b r i in omega arith

  pub mirrored-canonical : (R : List Rule) → Canonical R → Bounded last R → Canonical (mirrored last R)
  unfolding mirrored
  mirrored-canonical [] c b = tt
  mirrored-canonical (x ∷ xs) c b = let w = c.0 in insert-canonical (mirror last x) (mirrored last xs) (omega arith) (mirrored-canonical xs c.2 (λ r i. b r (inr i)))

  -- the mirrored rules are the mirrors of the rules
  pub in_mirrored : (R : List Rule) (s : Rule) → In s (mirrored last R) → (r : Rule) × (In r R × (s ≡ mirror last r))
  unfolding mirrored
  in_mirrored [] s h = elim h [ ]
  in_mirrored (x ∷ xs) s h = elim (in_insert_old (mirror last x) (mirrored last xs) s h) [ inl e ↦ (x, (inl refl, e)) | inr k ↦ let q = in_mirrored xs s k in (q.0, (inr q.1.0, q.1.1)) ]

  pub mirrored_in : (R : List Rule) → Canonical R → Bounded last R → (r : Rule) → In r R → In (mirror last r) (mirrored last R)
  unfolding mirrored
  mirrored_in [] c b r i = elim i [ ]
  mirrored_in (x ∷ xs) c b r (inl e) = rw e (in_insert_new (mirror last x) (mirrored last xs))
  mirrored_in (x ∷ xs) c b r (inr i) =
      let e = c.1 r i in
      let f = b x (inl refl) in
      let g = b r (inr i) in
      let h = start-bounded (x ∷ xs) c b r (inr i) in
      let s = c.0 in
      in_insert_keep (mirror last x) (mirrored last xs) (mirror last r) (λ q. omega arith) (mirrored_in xs c.2 (λ y k. b y (inr k)) r i)

  pub mirrored-hop : (R : List Rule) → Canonical R → Bounded last R → (u v : ℕ) → u ≤ last → v ≤ last → hop_of (mirrored last R) (last - v) (last - u) ≡ hop_of R u v
  unfolding mirrored hop_of
  mirrored-hop [] c b u v p q = refl
  mirrored-hop (x ∷ xs) c b u v p q =
      let ih = mirrored-hop xs c.2 (λ y k. b y (inr k)) u v p q in
      let f = b x (inl refl) in
      let s = start-bounded (x ∷ xs) c b x (inl refl) in
      let e : same (range (last - v) (last - u)) (mirror last x) ≡ same (range u v) x = grind (arith, nat_tests) in
      hop-insert (mirror last x) (mirrored last xs) (last - v) (last - u) ∙ rw (e, ih)

  pub mirrored-length : (R : List Rule) → Canonical R → Bounded last R → length (mirrored last R) ≡ length R
  unfolding mirrored
  mirrored-length [] c b = refl
  mirrored-length (x ∷ xs) c b =
      let b' : Bounded last xs = λ y k. b y (inr k) in
      let n : hop_of xs x.start x.finish ≡ None = absent_hop xs x.start x.finish (λ s i q. let e = c.1 s i in omega arith) in
      let h = mirrored-hop xs c.2 b' x.start x.finish (start-bounded (x ∷ xs) c b x (inl refl)) (b x (inl refl)) in
      insert-length (mirror last x) (mirrored last xs) (ap is_some (h ∙ n)) ∙ ap suc (mirrored-length xs c.2 b')

  pub mirrored-insert : (R : List Rule) (r : Rule) → Canonical R → Bounded last R → r.start ≤ r.finish → r.finish ≤ last → mirrored last (insert r R) ≡ insert (mirror last r) (mirrored last R)
  unfolding mirrored insert
  mirrored-insert [] r c b w f = refl
  mirrored-insert (x ∷ xs) r c b w f =
      let ih = mirrored-insert xs r c.2 (λ y k. b y (inr k)) w f in
      let e = b x (inl refl) in
      let g = c.0 in
      let again = insert_again (mirror last r) (mirror last x) (mirrored last xs) in
      let swap = insert_swap (mirror last x) (mirror last r) (mirrored last xs) in
      cond_both (same r x) (r ∷ xs) (cond (earlier r x) (r ∷ (x ∷ xs)) (x ∷ insert r xs)) (λ l. mirrored last l ≡ insert (mirror last r) (mirrored last (x ∷ xs)))
      (λ s. let z : Same r x = grind (arith, nat_tests) in sym (again (omega arith)))
      (λ s.
      let z : Same r x → ⊥ = λ q. grind (arith, nat_tests) in
      cond_both (earlier r x) (r ∷ (x ∷ xs)) (x ∷ insert r xs) (λ l. mirrored last l ≡ insert (mirror last r) (mirrored last (x ∷ xs))) (λ t. refl) (λ t. rw ih (swap (λ q. z (omega arith)))))

  pub mirrored-delete : (R : List Rule) (u v : ℕ) → Canonical R → Bounded last R → u ≤ last → v ≤ last → mirrored last (delete u v R) ≡ delete (last - v) (last - u) (mirrored last R)
  unfolding mirrored delete
  mirrored-delete [] u v c b p f = refl
  mirrored-delete (x ∷ xs) u v c b p f =
      let b' : Bounded last xs = λ y k. b y (inr k) in
      let ih = mirrored-delete xs u v c.2 b' p f in
      let e = b x (inl refl) in
      let g = c.0 in
      let s : same (range (last - v) (last - u)) (mirror last x) ≡ same (range u v) x = grind (arith, nat_tests) in
      let d = delete_swap (last - v) (last - u) (mirror last x) (mirrored last xs) (mirrored-canonical xs c.2 b') in
      grind (arith, nat_tests)

-- a canonical list has one closest rule
closest_one : (R : List Rule) → Canonical R → (P : Rule → Type 0) (o q : Option Rule) → Best closer P R o → Best closer P R q → o ≡ q
closest_one R c P None None a b = refl
closest_one R c P None (Some s) a b = absurd (a s b.0 b.1)
closest_one R c P (Some r) None a b = absurd (b r a.0 a.1)
closest_one R c P (Some r) (Some s) a b =
    let p = a.2 s b.0 b.1 in
    let q = b.2 r a.0 a.1 in
    ap Some (in_same R c r s a.0 b.0 (grind (arith, nat_tests)))

pub greatest_start-mirrored : GreatestStartLaw
greatest_start-mirrored last R d c b h =
    let o = least_finish (mirrored last R) (last - d) in
    closest_one R c (λ r. Covers r d) (greatest_start R d) (back last o) (greatest_start_is R d) (go o (least_finish_is (mirrored last R) (last - d)))
  where
    go : (o : Option Rule) → Best earlier (λ r. Covers r (last - d)) (mirrored last R) o → Best closer (λ r. Covers r d) R (back last o)
    go None f = λ s i p. f (mirror last s) (mirrored_in last R c b s i) (omega arith)
    go (Some s) f =
        let q = in_mirrored last R s f.0 in
        let a = start-bounded last R c b q.0 q.1.0 in
        let z = b q.0 q.1.0 in
        let e : mirror last s ≡ q.0 = ap (mirror last) q.1.1 ∙ mirror-back last q.0 a z in (
          subst (λ y. In y R) (sym e) q.1.0,
          omega (arith, f.1),
          λ t i p.
              let y = start-bounded last R c b t i in
              let w = b t i in
              let k : earlier (mirror last t) s ≡ false = f.2 (mirror last t) (mirrored_in last R c b t i) (omega arith) in
              let u : s.start ≤ last = omega (arith, ap (λ (x : Rule). x.start) q.1.1) in
              let v : s.finish ≤ last = omega (arith, ap (λ (x : Rule). x.finish) q.1.1) in
              grind (arith, nat_tests),
        )
