-- What a row of lookups answers and writes.
use Rattle.std.specs.Prelude.{◌≡◌, ℕ, ◌<◌, ◌≤◌, cond, List, [], ◌∷◌, length, take, drop, Ok, Err, Result, nat_lt, slice_index}
use Rattle.rules.specs.declared.refusal.Refusal.{Refusal}
use Rattle.rules.specs.declared.refusal.Refusal.TheVariants.{ShortBuffer}
use Rattle.rules.specs.Rules.{Rule}
use Rattle.rules.specs.Conflicts.{MostSpecific}
use Rattle.table.specs.Answers.{lookup_answer}

-- one more hop, or the end at a refusal
abbrev pub hop_then : Result Rule Refusal → List ℕ → List ℕ
hop_then (Ok r) hs = r.hop ∷ hs
hop_then (Err e) hs = []

-- the hops of the destinations in front of the first whose lookup refuses
unfoldable pub hops_of : List Rule → List ℕ → List ℕ
hops_of R [] = []
hops_of R (d ∷ ds) = hop_then (lookup_answer R d) (hops_of R ds)

-- that one's place, or the row's length if there is none
abbrev pub first_refused : List Rule → List ℕ → ℕ
first_refused R ds = length (hops_of R ds)

-- a hop row of n places is refused if it is shorter than the destination row
abbrev pub row_answer : List Rule → List ℕ → ℕ → Result ℕ Refusal
row_answer R ds n = cond (nat_lt n (length ds)) (Err ShortBuffer) (Ok (first_refused R ds))

-- the first k hops are those of the lookups and the others keep what they held; a refusal writes none
abbrev pub Written : List Rule → List ℕ → List ℕ → List ℕ → Result ℕ Refusal → Type 0
Written R ds before after (Ok k) = (take k after ≡ hops_of R ds) × (drop k after ≡ drop k before)
Written R ds before after (Err e) = after ≡ before

-- every destination before place k has a most specific rule, whose hop is written; the one at place k, if there is one, has none
pub record RightTo (R : List Rule) (ds before after : List ℕ) (k : ℕ) : Type 0 where
  pub fits : length ds ≤ length before
  pub within : k ≤ length ds
  pub found : (i : ℕ) → i < k → (r : Rule) × (MostSpecific R (slice_index ds i) r × (slice_index after i ≡ r.hop))
  pub refused : k < length ds → (r : Rule) → MostSpecific R (slice_index ds k) r → ⊥
  pub kept : (i : ℕ) → k ≤ i → slice_index after i ≡ slice_index before i

abbrev pub Right : List Rule → List ℕ → List ℕ → List ℕ → Result ℕ Refusal → Type 0
Right R ds before after (Ok k) = RightTo R ds before after k
Right R ds before after (Err e) = (e ≡ ShortBuffer) × (length before < length ds) × (after ≡ before)
