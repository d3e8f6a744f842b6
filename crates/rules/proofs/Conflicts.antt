-- Most specific rules, resolved addresses and conflict-free sets.
use Rattle.std.proofs.Common.{◌≡◌, ℕ, zero, suc, ◌+◌, ◌-◌, ◌<◌, ◌≤◌, true, false, ◌&&◌, List, Some, None, Decides, Option, refl, subst, inl, inr, arith}
use Rattle.std.proofs.lemmas.Bool.Decides.{nat_tests, Decides-and, Decides-like}
use Rattle.std.proofs.lemmas.Bool.{cases_eq, cases_Bool}
use Rattle.rules.specs.Rules.{Rule, range, In, Covers, Inside, Same, Absent, Canonical, Bounded, earlier, same, covers, insert, delete}
use Rattle.rules.specs.Search.{Best, closer, least_finish, greatest_start, same_found, agree}
use Rattle.rules.specs.Conflicts.{Cross, Filled, MostSpecific, ResolvedAt, ResolvedIn, ConflictFree, AllFilled, Conflicting, most_specific, resolved_at, resolved_from, resolved_in}
use Rattle.rules.proofs.Members.{covers_tells, same_tells, in_same, in_insert_old, in_insert_new, in_insert_keep, in_delete, in_delete_keep}
use Rattle.rules.proofs.Search.{best_is, earlier_ranks, closer_ranks, same_found-decides, agree-least, least-agree, no_inner}

pub decides_covers : (d : ℕ) (r : Rule) → Decides (covers r d) (Covers r d)
decides_covers d r = ((λ e. grind (arith, nat_tests)), λ c. grind (arith, nat_tests))

pub least_finish_is : (R : List Rule) (d : ℕ) → Best earlier (λ r. Covers r d) R (least_finish R d)
least_finish_is R d = best_is earlier earlier_ranks (λ r. covers r d) (λ r. Covers r d) (decides_covers d) R

pub greatest_start_is : (R : List Rule) (d : ℕ) → Best closer (λ r. Covers r d) R (greatest_start R d)
greatest_start_is R d = best_is closer closer_ranks (λ r. covers r d) (λ r. Covers r d) (decides_covers d) R

pub most_specific_sound : (R : List Rule) (d : ℕ) (r : Rule) → most_specific R d ≡ Some r → MostSpecific R d r
most_specific_sound R d = agree-least (λ r. covers r d) (λ r. Covers r d) (decides_covers d) R

pub most_specific_complete : (R : List Rule) → Canonical R → (d : ℕ) (r : Rule) → MostSpecific R d r → most_specific R d ≡ Some r
most_specific_complete R c d = least-agree (λ r. covers r d) (λ r. Covers r d) (decides_covers d) R c

pub resolved_at_decides : (R : List Rule) (d : ℕ) → Decides (resolved_at R d) (ResolvedAt R d)
resolved_at_decides R d = same_found-decides (λ r. covers r d) (λ r. Covers r d) (decides_covers d) R

pub resolved_from_decides : (R : List Rule) (n d : ℕ) → Decides (resolved_from R d n) ((k : ℕ) → d ≤ k → k < d + n → ResolvedAt R k)
unfolding resolved_from
resolved_from_decides R zero d = ((λ e k a b. absurd (omega arith)), λ h. refl)
resolved_from_decides R (suc n) d =
    Decides-like (resolved_at R d && resolved_from R (suc d) n)
    (λ p k a b. elim (cases_eq d k) [ inl e ↦ subst (ResolvedAt R) e p.0 | inr q ↦ p.1 k (omega arith) (omega arith) ])
    (λ h. (h d (omega arith) (omega arith), λ k a b. h k (omega arith) (omega arith)))
    (Decides-and (resolved_at R d) (resolved_from R (suc d) n) (resolved_at_decides R d) (resolved_from_decides R n (suc d)))

pub resolved_in_decides : (R : List Rule) (u v : ℕ) → Decides (resolved_in R u v) (ResolvedIn R u v)
unfolding resolved_in
resolved_in_decides R u v = Decides-like (resolved_from R u (suc v - u)) (λ h k a b. h k a (omega arith)) (λ h k a b. h k a (omega arith)) (resolved_from_decides R (suc v - u) u)

-- conflict-free iff every crossing pair is filled
pub filled_from_free : (R : List Rule) → ConflictFree R → AllFilled R
filled_from_free R free r s h k x d a b =
    let p = free d (r, (h, a)) in
    let i = p.1 in
    (p.0, (i.held, i.fits, i.least r h a, i.least s k b))

inner_least : (f s t q : Rule) → earlier q f ≡ false → closer q s ≡ false → Inside t f → Inside t s → Inside t q
inner_least f s t q a b i j = grind (arith, nat_tests)

-- what the two searches find crosses, unless it is one range
crossing : (d : ℕ) (f s : Rule) → Covers f d → Covers s d → earlier s f ≡ false → closer f s ≡ false → same f s ≡ false → Cross f s
crossing d f s p q a b n = ((d, (p, q)), (λ i. grind (arith, nat_tests)), λ i. grind (arith, nat_tests))

free_at : (R : List Rule) (d : ℕ) → AllFilled R → (f s : Option Rule) → Best earlier (λ r. Covers r d) R f → Best closer (λ r. Covers r d) R s → ResolvedAt R d
free_at R d fill None s bf bs c = absurd (bf c.0 c.1.0 c.1.1)
free_at R d fill (Some f) None bf bs c = absurd (bs c.0 c.1.0 c.1.1)
free_at R d fill (Some f) (Some s) bf bs c =
    elim (same_tells f s) [
      | inl p ↦ let e = p.1 in (f, record { held = bf.0; fits = bf.1; least = λ q h k. inner_least f s f q (bf.2 q h k) (bs.2 q h k) (omega arith) (omega arith) })
      | inr p ↦
          let t = fill f s bf.0 bs.0 (crossing d f s bf.1 bs.1 (bf.2 s bs.0 bs.1) (bs.2 f bf.0 bf.1) p.0) d bf.1 bs.1 in
          (t.0, record { held = t.1.0; fits = t.1.1; least = λ q h k. inner_least f s t.0 q (bf.2 q h k) (bs.2 q h k) t.1.2 t.1.3 })
    ]

pub free_from_filled : (R : List Rule) → AllFilled R → ConflictFree R
free_from_filled R fill d = free_at R d fill (least_finish R d) (greatest_start R d) (least_finish_is R d) (greatest_start_is R d)

-- locality: an address that r does not cover has what it had
pub resolved_insert_away : (R : List Rule) (r : Rule) (d : ℕ) → Absent r R → (Covers r d → ⊥) → ResolvedAt R d → ResolvedAt (insert r R) d
resolved_insert_away R r d a n c q =
    let old : (s : Rule) → In s (insert r R) → Covers s d → In s R = λ s h k. elim (in_insert_old r R s h) [ inl e ↦ absurd (n (rw e at k)) | inr m ↦ m ] in
    let t = c (q.0, (old q.0 q.1.0 q.1.1, q.1.1)) in
    (t.0, record { held = in_insert_keep r R t.0 (a t.0 t.1.held) t.1.held; fits = t.1.fits; least = λ s h k. t.1.least s (old s h k) k })

pub resolved_delete_away : (R : List Rule) (u v d : ℕ) → (Covers (range u v) d → ⊥) → ResolvedAt R d → ResolvedAt (delete u v R) d
resolved_delete_away R u v d n c q =
    let t = c (q.0, ((in_delete u v R q.0 q.1.0).0, q.1.1)) in
    (t.0, record { held = in_delete_keep u v R t.0 t.1.held (λ e. n (omega (arith, t.1.fits))); fits = t.1.fits; least = λ s h k. t.1.least s (in_delete u v R s h).0 k })

free_by_parts : (R : List Rule) (u v : ℕ) → ((d : ℕ) → (Covers (range u v) d → ⊥) → ResolvedAt R d) → Decides (resolved_in R u v) (ConflictFree R)
free_by_parts R u v away =
    Decides-like (resolved_in R u v) (λ f d. elim (covers_tells (range u v) d) [ inl p ↦ f d p.1.0 p.1.1 | inr p ↦ away d p.1 ]) (λ f k a b. f k) (resolved_in_decides R u v)

pub insert_decides : (R : List Rule) (r : Rule) → ConflictFree R → Absent r R → Decides (resolved_in (insert r R) r.start r.finish) (ConflictFree (insert r R))
insert_decides R r free a = free_by_parts (insert r R) r.start r.finish (λ d n. resolved_insert_away R r d a n (free d))

pub delete_decides : (R : List Rule) (u v : ℕ) → ConflictFree R → Decides (resolved_in (delete u v R) u v) (ConflictFree (delete u v R))
delete_decides R u v free = free_by_parts (delete u v R) u v (λ d n. resolved_delete_away R u v d n (free d))

pub whole_decides : (last : ℕ) (R : List Rule) → Bounded last R → Decides (resolved_in R 0 last) (ConflictFree R)
whole_decides last R b = free_by_parts R 0 last (λ d n c. absurd (n (omega (arith, b c.0 c.1.0, c.1.1))))

-- where the test fails, the two rules that the searches find cross, and no rule fills what they share
conflicting_at : (R : List Rule) (d : ℕ) (f s : Option Rule) → Best earlier (λ r. Covers r d) R f → Best closer (λ r. Covers r d) R s → same_found f s ≡ false → Conflicting R
conflicting_at R d None s bf bs e = cc
conflicting_at R d (Some f) None bf bs e = absurd (bs f bf.0 bf.1)
conflicting_at R d (Some f) (Some s) bf bs e = (f, s, (bf.0, bs.0, crossing d f s bf.1 bs.1 (bf.2 s bs.0 bs.1) (bs.2 f bf.0 bf.1) e, gap))
  where
    gap : Filled R f s → ⊥
    gap fill = let t = fill d bf.1 bs.1 in let n = no_inner f s t.0 (bf.2 t.0 t.1.0 t.1.1) (bs.2 t.0 t.1.0 t.1.1) t.1.2 t.1.3 in grind (arith, nat_tests)

conflicting_from : (R : List Rule) (n d : ℕ) → resolved_from R d n ≡ false → Conflicting R
unfolding resolved_from
conflicting_from R zero d e = cc
conflicting_from R (suc n) d e =
    elim (cases_Bool (resolved_at R d)) [
      | inl q ↦ conflicting_from R n (suc d) (rw q at e)
      | inr q ↦ conflicting_at R d (least_finish R d) (greatest_start R d) (least_finish_is R d) (greatest_start_is R d) q
    ]

pub conflicting : (R : List Rule) (u v : ℕ) → resolved_in R u v ≡ false → Conflicting R
unfolding resolved_in
conflicting R u v e = conflicting_from R (suc v - u) u e

-- where the two searches find one rule
pub agree_one : (R : List Rule) → Canonical R → (d : ℕ) (r : Rule) → MostSpecific R d r → (least_finish R d ≡ Some r) × (greatest_start R d ≡ Some r)
agree_one R c d r i = go (least_finish R d) (greatest_start R d) (least_finish_is R d) (greatest_start_is R d) (most_specific_complete R c d r i)
  where
    go : (f s : Option Rule) → Best earlier (λ q. Covers q d) R f → Best closer (λ q. Covers q d) R s → agree f s ≡ Some r → (f ≡ Some r) × (s ≡ Some r)
    go None s bf bs e = cc
    go (Some f) None bf bs e = cc
    go (Some f) (Some s) bf bs e = elim (same_tells f s) [ inl p ↦ let q : f ≡ s = in_same R c f s bf.0 bs.0 p.1 in let k : f ≡ r = cc in (cc, cc) | inr p ↦ cc ]

pub one_agree : (R : List Rule) (d : ℕ) (r : Rule) → least_finish R d ≡ Some r → greatest_start R d ≡ Some r → MostSpecific R d r
one_agree R d r e k = let t : same r r ≡ true = grind (arith, nat_tests) in most_specific_sound R d r (rw (e, k, t))

-- every range of R is one of S
abbrev pub RangesIn : List Rule → List Rule → Type 0
RangesIn R S = (s : Rule) → In s R → (t : Rule) × (In t S × Same s t)

-- what conflicts goes by ranges alone
pub free_by_ranges : (R S : List Rule) → RangesIn R S → RangesIn S R → ConflictFree R → ConflictFree S
free_by_ranges R S f g free d c =
    let q = g c.0 c.1.0 in
    let t = free d (q.0, (q.1.0, let a = c.1.1 in let e = q.1.1 in omega arith)) in
    let u = f t.0 t.1.held in
    (u.0, record { held = u.1.0; fits = (let a = t.1.fits in let e = u.1.1 in omega arith); least = λ s h k. let w = g s h in let m = t.1.least w.0 w.1.0 (let e = w.1.1 in omega arith) in omega (arith, w.1.1, u.1.1) })

-- a held range whose hop is replaced
pub free_replaced : (R : List Rule) (r x : Rule) → In x R → Same r x → ConflictFree R → ConflictFree (insert r R)
free_replaced R r x h e =
    free_by_ranges R (insert r R)
    (λ s k. elim (same_tells r s) [ inl p ↦ (r, (in_insert_new r R, let q = p.1 in omega arith)) | inr p ↦ (s, (in_insert_keep r R s p.1 k, omega arith)) ])
    (λ s k. elim (in_insert_old r R s k) [ inl p ↦ rw p (x, (h, e)) | inr m ↦ (s, (m, omega arith)) ])
