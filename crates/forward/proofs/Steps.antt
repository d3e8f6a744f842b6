-- Rows of lookups: what the hops in front of the first refusal are, and the loop that writes them.
use Rattle.std.proofs.Common.{◌≡◌, ℕ, zero, suc, ◌+◌, ◌-◌, ◌<◌, ◌≤◌, false, ltb, List, [], ◌∷◌, ◌++◌, length, get_or, take, drop, set, Ok, Err, Result, sym, refl, ap, ◌∙◌, inl, inr, arith}
use Rattle.std.proofs.lemmas.List.{append_assoc, append-nil, at_drop_more, take_more_set, drop-set-lt, drop-drop, length-take-le, get_or-take, get_or-drop}
use Rattle.std.proofs.lemmas.Bool.Decides.{nat_tests}
use Rattle.rules.specs.declared.refusal.Refusal.{Refusal}
use Rattle.rules.specs.Rules.{Rule}
use Rattle.rules.specs.Conflicts.{MostSpecific}
use Rattle.table.specs.Answers.{lookup_answer}
use Rattle.table.proofs.Lookups.{right_at}
use Rattle.forward.specs.Rows.{hop_then, hops_of, first_refused, row_answer, Written, RightTo}

-- no more hops than destinations
within : (R : List Rule) (ds : List ℕ) → first_refused R ds ≤ length ds
unfolding hops_of
within R [] = omega arith
within R (d ∷ ds) = go (lookup_answer R d) (within R ds)
  where
    go : (o : Result Rule Refusal) → length (hops_of R ds) ≤ length ds → length (hop_then o (hops_of R ds)) ≤ suc (length ds)
    go (Ok r) h = omega arith
    go (Err e) h = omega arith

-- each hop is that of its destination's lookup
hop_at : (R : List Rule) (ds : List ℕ) (i : ℕ) → i < first_refused R ds → (r : Rule) × ((lookup_answer R (get_or ds i 0) ≡ Ok r) × (get_or (hops_of R ds) i 0 ≡ r.hop))
unfolding hops_of
hop_at R [] i h = absurd (omega arith)
hop_at R (d ∷ ds) i h = go (lookup_answer R d) refl i (hop_at R ds) h
  where
    go : (o : Result Rule Refusal) → lookup_answer R d ≡ o → (i : ℕ)
        → ((j : ℕ) → j < length (hops_of R ds) → (r : Rule) × ((lookup_answer R (get_or ds j 0) ≡ Ok r) × (get_or (hops_of R ds) j 0 ≡ r.hop)))
        → i < length (hop_then o (hops_of R ds)) → (r : Rule) × ((lookup_answer R (get_or (d ∷ ds) i 0) ≡ Ok r) × (get_or (hop_then o (hops_of R ds)) i 0 ≡ r.hop))
    go (Ok r) e zero ih h = (r, (e, refl))
    go (Ok r) e (suc i) ih h = ih i (omega arith)
    go (Err x) e i ih h = absurd (omega arith)

-- the lookup behind the last hop refuses
refusal_at : (R : List Rule) (ds : List ℕ) → first_refused R ds < length ds → (e : Refusal) × (lookup_answer R (get_or ds (first_refused R ds) 0) ≡ Err e)
unfolding hops_of
refusal_at R [] h = absurd (omega arith)
refusal_at R (d ∷ ds) h = go (lookup_answer R d) refl (refusal_at R ds) h
  where
    go : (o : Result Rule Refusal) → lookup_answer R d ≡ o
        → (length (hops_of R ds) < length ds → (e : Refusal) × (lookup_answer R (get_or ds (length (hops_of R ds)) 0) ≡ Err e))
        → length (hop_then o (hops_of R ds)) < suc (length ds) → (e : Refusal) × (lookup_answer R (get_or (d ∷ ds) (length (hop_then o (hops_of R ds))) 0) ≡ Err e)
    go (Ok r) e ih h = ih (omega arith)
    go (Err x) e ih h = (x, e)

-- a refused address has no most specific rule
none_specific : (R : List Rule) (d : ℕ) (e : Refusal) → lookup_answer R d ≡ Err e → (r : Rule) → MostSpecific R d r → ⊥
none_specific R d e p r m =
    elim (right_at R d (Err e) (sym p)) [
      | inl u ↦ u.1 (r, (m.held, m.fits))
      | inr a ↦ a.2 r m
    ]

module _ (R : List Rule) (ds before : List ℕ) where
  -- after i lookups that are not refused: what is written and what is to come give the hops, and the rest of the row is as before
  abbrev pub Sofar : List ℕ → ℕ → Type 0
  Sofar hs i = (hops_of R ds ≡ take i hs ++ hops_of R (drop i ds)) × (drop i hs ≡ drop i before)

  pub record Done (after : List ℕ) (k : ℕ) : Type 0 where
    pub answer : Ok k ≡ row_answer R ds (length before)
    pub written : Written R ds before after (Ok k)
    pub right : RightTo R ds before after k

  module _ (hs : List ℕ) (i : ℕ) where
    -- the destination d at place i decides whether more hops come
    behind : (d : ℕ) (o : Result Rule Refusal) → i < length ds → d ≡ get_or ds i 0 → o ≡ lookup_answer R d → hops_of R (drop i ds) ≡ hop_then o (hops_of R (drop (i + 1) ds))
    unfolding hops_of
    behind d o l q e = at_drop_more (hops_of R) ds i 0 l ∙ ap (λ x. hop_then x (hops_of R (drop (i + 1) ds))) (sym (e ∙ ap (lookup_answer R) q))

    -- one more hop is written
    pub more : (d : ℕ) (r : Rule) → i < length ds → i < length hs → d ≡ get_or ds i 0 → Ok r ≡ lookup_answer R d → Sofar hs i → Sofar (set hs i r.hop) (i + 1)
    more d r l k q e s =
        let rest = hops_of R (drop (i + 1) ds) in (
          let b = behind d (Ok r) l q e in
              let a = append_assoc (take i hs) (r.hop ∷ []) rest in
              let t = take_more_set hs i r.hop k in
              cc,
          let w = drop-set-lt (i + 1) hs i r.hop (omega arith) in
              let x = drop-drop 1 i hs in
              let y = drop-drop 1 i before in
              cc,
        )

    -- no hop comes behind a refusal
    pub stop : (d : ℕ) (e : Refusal) → i < length ds → d ≡ get_or ds i 0 → Err e ≡ lookup_answer R d → hops_of R (drop i ds) ≡ []
    stop d e l q p = behind d (Err e) l q p

    right-to : length ds ≤ length before → i ≡ first_refused R ds → take i hs ≡ hops_of R ds → drop i hs ≡ drop i before → RightTo R ds before hs i
    right-to l n t u =
        record {
          fits = l;
          within = rw n (within R ds);
          found = λ j h.
              let x = hop_at R ds j (omega arith) in
              let k = get_or-take i hs j 0 h in
              (x.0, (right_at R (get_or ds j 0) (Ok x.0) (sym x.1.0), (cc)));
          refused = λ h.
              let x = refusal_at R ds (omega arith) in
              none_specific R (get_or ds i 0) x.0 (cc);
          kept = λ j h.
              let m : i + (j - i) ≡ j = omega arith in
              let x = get_or-drop i hs (j - i) 0 in
              let y = get_or-drop i before (j - i) 0 in
              cc;
        }

    -- where no hop is to come, the row is done
    pub done : length ds ≤ length before → i ≤ length hs → hops_of R (drop i ds) ≡ [] → Sofar hs i → Done hs i
    done l k z s =
        let w : take i hs ≡ hops_of R ds = (let a = append-nil (take i hs) in cc) in
        let n : i ≡ first_refused R ds = (let a = length-take-le i hs k in cc) in
        let b : ltb (length before) (length ds) ≡ false = grind (arith, nat_tests) in
        record { answer = sym (rw (b, ← n)); written = (w, s.1); right = right-to l n w s.1 }
