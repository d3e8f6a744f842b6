-- Searches by an order, and where the search by finish and the search by start agree.
use Rattle.std.proofs.Common.{◌≡◌, Bool, true, false, cond, List, [], ◌∷◌, ◌++◌, Some, None, Decides, Option, refl, subst, inl, inr, arith}
use Rattle.std.proofs.lemmas.Bool.{cond_both}
use Rattle.std.proofs.lemmas.Bool.Decides.{nat_tests, not_from_Decides}
use Rattle.rules.specs.Rules.{Rule, In, Inside, Same, Canonical, earlier, same}
use Rattle.rules.specs.Search.{Best, best, better, closer, Least, same_found, agree}
use Rattle.rules.proofs.Members.{same_tells, in_same}

-- an order that a search may go by
pub record Ranks (lt : Rule → Rule → Bool) : Type 0 where
  pub irr : (x : Rule) → lt x x ≡ false
  pub asym : (x y : Rule) → lt x y ≡ true → lt y x ≡ false
  pub trans : (x y z : Rule) → lt x y ≡ false → lt y z ≡ false → lt x z ≡ false

pub earlier_ranks : Ranks earlier
earlier_ranks = record { irr = λ x. grind (arith, nat_tests); asym = λ x y p. grind (arith, nat_tests); trans = λ x y z p q. grind (arith, nat_tests) }

pub closer_ranks : Ranks closer
closer_ranks = record { irr = λ x. grind (arith, nat_tests); asym = λ x y p. grind (arith, nat_tests); trans = λ x y z p q. grind (arith, nat_tests) }

pub best_is : (lt : Rule → Rule → Bool) → Ranks lt → (p : Rule → Bool) (P : Rule → Type 0) → ((x : Rule) → Decides (p x) (P x)) → (R : List Rule) → Best lt P R (best lt p R)
unfolding best
best_is lt k p P each [] = λ s h w. h
best_is lt k p P each (x ∷ xs) = go (p x) (each x) (best lt p xs) (best_is lt k p P each xs)
  where
    go : (t : Bool) → Decides t (P x) → (o : Option Rule) → Best lt P xs o → Best lt P (x ∷ xs) (better lt (cond t (Some x) None) o)
    go false d None b = λ s i w. elim i [ inl e ↦ not_from_Decides false d refl (rw e at w) | inr m ↦ b s m w ]
    go false d (Some y) b = (inr b.0, b.1, λ s i w. elim i [ inl e ↦ absurd (not_from_Decides false d refl (rw e at w)) | inr m ↦ b.2 s m w ])
    go true d None b = (inl refl, d.0 refl, λ s i w. elim i [ inl e ↦ rw e (k.irr x) | inr m ↦ absurd (b s m w) ])
    go true d (Some y) b =
        cond_both (lt y x) (Some y) (Some x) (Best lt P (x ∷ xs))
        (λ e. (inr b.0, b.1, λ s i w. elim i [ inl q ↦ rw q (k.asym y x e) | inr m ↦ b.2 s m w ]))
        (λ e. (inl refl, d.0 refl, λ s i w. elim i [ inl q ↦ rw q (k.irr x) | inr m ↦ k.trans s y x (b.2 s m w) e ]))

pub better_assoc : (lt : Rule → Rule → Bool) → Ranks lt → (a b c : Option Rule) → better lt a (better lt b c) ≡ better lt (better lt a b) c
better_assoc lt k None b c = refl
better_assoc lt k (Some x) None c = refl
better_assoc lt k (Some x) (Some y) None = grind arith
better_assoc lt k (Some x) (Some y) (Some z) = let a = k.trans z x y in let b = k.asym y x in let c = k.trans z y x in grind arith

-- over the parts of a list, as a tree has them
pub best-++ : (lt : Rule → Rule → Bool) → Ranks lt → (p : Rule → Bool) (xs ys : List Rule) → best lt p (xs ++ ys) ≡ better lt (best lt p xs) (best lt p ys)
unfolding best
best-++ lt k p [] ys = refl
best-++ lt k p (x ∷ xs) ys = rw (best-++ lt k p xs ys) (better_assoc lt k (cond (p x) (Some x) None) (best lt p xs) (best lt p ys))

-- where the two searches meet
least_of_both : (f s q : Rule) → earlier q f ≡ false → closer q s ≡ false → Same f s → Inside f q
least_of_both f s q p r e = grind (arith, nat_tests)

pub no_inner : (f s t : Rule) → earlier t f ≡ false → closer t s ≡ false → Inside t f → Inside t s → Same f t × Same s t
no_inner f s t p q i j = grind (arith, nat_tests)

module _ (p : Rule → Bool) (P : Rule → Type 0) (each : (x : Rule) → Decides (p x) (P x)) (R : List Rule) where
  agree_sound : (f s : Option Rule) → Best earlier P R f → Best closer P R s → (r : Rule) → agree f s ≡ Some r → Least P R r
  agree_sound None s a b r e = cc
  agree_sound (Some f) None a b r e = cc
  agree_sound (Some f) (Some s) a b r e =
      elim (same_tells f s) [
        | inl w ↦ let q : f ≡ r = cc in subst (Least P R) q (record { held = a.0; fits = a.1; least = λ q h k. least_of_both f s q (a.2 q h k) (b.2 q h k) w.1 })
        | inr w ↦ cc
      ]

  agree_complete : (f s : Option Rule) → Best earlier P R f → Best closer P R s → (r : Rule) → Least P R r → (t : Rule) × ((agree f s ≡ Some t) × Same t r × In t R × (same_found f s ≡ true))
  agree_complete None s a b r i = absurd (a r i.held i.fits)
  agree_complete (Some f) None a b r i = absurd (b r i.held i.fits)
  agree_complete (Some f) (Some s) a b r i =
      let n = no_inner f s r (a.2 r i.held i.fits) (b.2 r i.held i.fits) (i.least f a.0 a.1) (i.least s b.0 b.1) in
      let e : same f s ≡ true = grind (arith, nat_tests) in
      (f, (rw e, n.0, a.0, e))

  by_finish : Best earlier P R (best earlier p R)
  by_finish = best_is earlier earlier_ranks p P each R

  by_start : Best closer P R (best closer p R)
  by_start = best_is closer closer_ranks p P each R

  -- the answer is the least, and a least is the answer
  pub agree-least : (r : Rule) → agree (best earlier p R) (best closer p R) ≡ Some r → Least P R r
  agree-least = agree_sound (best earlier p R) (best closer p R) by_finish by_start

  pub least-agree : Canonical R → (r : Rule) → Least P R r → agree (best earlier p R) (best closer p R) ≡ Some r
  least-agree c r i =
      let k = agree_complete (best earlier p R) (best closer p R) by_finish by_start r i in
      let e = in_same R c k.0 r k.1.2 i.held k.1.1 in
      cc

  pub same_found-decides : Decides (same_found (best earlier p R) (best closer p R)) (((s : Rule) × (In s R × P s)) → (r : Rule) × Least P R r)
  same_found-decides = go (best earlier p R) (best closer p R) by_finish by_start
    where
      go : (f s : Option Rule) → Best earlier P R f → Best closer P R s → Decides (same_found f s) (((s : Rule) × (In s R × P s)) → (r : Rule) × Least P R r)
      go None s a b = ((λ e c. absurd (a c.0 c.1.0 c.1.1)), λ c. refl)
      go (Some f) None a b = ((λ e c. absurd (b c.0 c.1.0 c.1.1)), λ c. absurd (b f a.0 a.1))
      go (Some f) (Some s) a b = ((λ e c. (f, agree_sound (Some f) (Some s) a b f (rw e))), λ c. let q = c (f, (a.0, a.1)) in (agree_complete (Some f) (Some s) a b q.0 q.1).1.3)
