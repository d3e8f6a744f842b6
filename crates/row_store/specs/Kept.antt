-- What holds of a row whose first n places are in canonical order.
use Rattle.std.specs.Prelude.{◌≡◌, ℕ, ◌≤◌, true, List, [], ◌∷◌, map, length, take}
use Rattle.std.proofs.Common.{arith, inl, inr}
use native.Mathlib.Nat.{min-le_left, min-le_right}
use Rattle.std.proofs.lemmas.List.{length-map, length-take-le}
use Rattle.rules.specs.declared.rule.Rule.{Rule as Stored}
use Rattle.rules.specs.Rules.{ordered, Bounded}
use Rattle.rules.specs.Answers.{numbered, Sound}
use Rattle.rules.proofs.Places.{ordered_decides}
use Rattle.row_store.specs.Held.{held}
use Rattle.rules.specs.Answers.{capped}

-- a count within the capacity is within the row
pub fits : (n l : ℕ) → n ≤ capped l → n ≤ l
fits n l h = omega (arith, min-le_left l 65535)

pub held-length : {A : Type 0} (num : A → ℕ) (row : List (Stored A)) (n : ℕ) → n ≤ length row → length (held num n row) ≡ n
held-length num row n w = rw (length-map (take n row) (numbered num)) (length-take-le n row w)

numbered-bounded : {A : Type 0} (num : A → ℕ) (last : ℕ) → ((x : A) → num x ≤ last) → (xs : List (Stored A)) → Bounded last (map (numbered num) xs)
numbered-bounded num last b [] r i = elim i [ ]
numbered-bounded num last b (x ∷ xs) r (inl e) = rw e (b x.finish)
numbered-bounded num last b (x ∷ xs) r (inr i) = numbered-bounded num last b xs r i

pub sound : {A : Type 0} (num : A → ℕ) (last : ℕ) → ((x : A) → num x ≤ last) → (n : ℕ) (row : List (Stored A))
    → n ≤ capped (length row) → ordered (held num n row) ≡ true → Sound (capped (length row)) last (held num n row)
sound num last b n row w o =
    record {
      within = rw (held-length num row n (fits n (length row) w)) w;
      capped = min-le_right (length row) 65535;
      canonical = (ordered_decides (held num n row)).0 o;
      bounded = numbered-bounded num last b (take n row);
    }
