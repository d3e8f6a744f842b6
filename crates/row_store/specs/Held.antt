-- What a row of places means as a store.
use Rattle.std.specs.Prelude.{◌≡◌, ℕ, ◌-◌, ◌<◌, ◌≤◌, false, List, map, take, length, slice_index_or, Some, None, Ok, Err, Result}
use Rattle.rules.specs.declared.rule.Rule.{Rule as Stored}
use Rattle.rules.specs.Rules.{Rule, range, hop_of, earlier}
use Rattle.rules.specs.Answers.{numbered, place_of}

-- the first n places of the row, by numbers
abbrev pub held : {A : Type 0} → (A → ℕ) → ℕ → List (Stored A) → List Rule
held num n row = map (numbered num) (take n row)

-- where a search for [u, v] ends: at the range's place, where it is held with its hop, or is not held
abbrev pub IsPlace : {A : Type 0} → (A → ℕ) → List (Stored A) → ℕ → ℕ → Result ℕ ℕ → Type 0
IsPlace num xs u v (Ok p) = (p ≡ place_of (map (numbered num) xs) u v) × (p < length xs) × ((d : Stored _) → hop_of (map (numbered num) xs) u v ≡ Some (slice_index_or xs p d).hop)
IsPlace num xs u v (Err p) = (p ≡ place_of (map (numbered num) xs) u v) × (p ≤ length xs) × (hop_of (map (numbered num) xs) u v ≡ None)

-- the first n places are all, or end at a rule that is not before [u, v]
abbrev pub Reaches : {A : Type 0} → (A → ℕ) → List (Stored A) → ℕ → ℕ → ℕ → Type 0
Reaches num xs u v n = (n ≤ length xs) × (n < length xs → (0 < n) × ((d : Stored _) → earlier (numbered num (slice_index_or xs (n - 1) d)) (range u v) ≡ false))
