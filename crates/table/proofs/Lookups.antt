-- The answer of a lookup is right.
use Rattle.std.proofs.Common.{◌≡◌, ℕ, Bool, true, false, List, Some, None, Option, Result, refl, inl, inr, arith}
use Rattle.rules.specs.declared.refusal.Refusal.{Refusal}
use Rattle.rules.specs.Rules.{Rule, Covers, earlier}
use Rattle.rules.specs.Search.{Best, least_finish, greatest_start, same_found, agree}
use Rattle.rules.specs.Conflicts.{MostSpecific}
use Rattle.rules.proofs.Conflicts.{least_finish_is, resolved_at_decides, most_specific_sound}
use Rattle.table.specs.Answers.{told_by, lookup_answer, Right}

agrees : (f : Rule) (s : Option Rule) → same_found (Some f) s ≡ true → agree (Some f) s ≡ Some f
agrees f None e = absurd (let z : ◌≡◌ {A = ℕ} 0 1 = cc in omega arith)
agrees f (Some s) e = rw e

differs : (f : Rule) (s : Option Rule) → same_found (Some f) s ≡ false → agree (Some f) s ≡ None
differs f None e = refl
differs f (Some s) e = rw e

pub lookup_right : (R : List Rule) (d : ℕ) → Right R d (lookup_answer R d)
lookup_right R d = go (least_finish R d) (greatest_start R d) refl refl (least_finish_is R d)
  where
    go : (f s : Option Rule) → least_finish R d ≡ f → greatest_start R d ≡ s → Best earlier (λ r. Covers r d) R f → Right R d (told_by (agree f s) f)
    go None s p q b = inl (refl, λ c. b c.0 c.1.0 c.1.1)
    go (Some x) s p q b = at (same_found (Some x) s) refl
      where
        clash : same_found (Some x) s ≡ false → (r : Rule) → MostSpecific R d r → ⊥
        clash e r i =
            let z = (resolved_at_decides R d).1 (λ c. (r, i)) in
            let w : same_found (Some x) s ≡ true = rw (← p, ← q) z in
            let n : ◌≡◌ {A = ℕ} 0 1 = cc in
            omega arith

        at : (t : Bool) → same_found (Some x) s ≡ t → Right R d (told_by (agree (Some x) s) (Some x))
        at true e = let a = agrees x s e in rw a (most_specific_sound R d x (rw (p, q) a))
        at false e = let a = differs x s e in rw a (inr (refl, (x, (b.0, b.1)), clash e))

pub right_at : (R : List Rule) (d : ℕ) (r : Result Rule Refusal) → r ≡ lookup_answer R d → Right R d r
right_at R d r e = rw e (lookup_right R d)
