-- Most specific rules, and sets in which every covered address has one.
use Rattle.std.specs.Prelude.{ℕ, zero, suc, ◌-◌, ◌≤◌, Bool, true, ◌&&◌, List, Option}
use Rattle.rules.specs.Rules.{Rule, In, Inside, Covers}
use Rattle.rules.specs.Search.{least_finish, greatest_start, Least, same_found, agree}

-- r covers d and lies inside every other rule of R that does
abbrev pub MostSpecific : List Rule → ℕ → Rule → Type 0
MostSpecific R d = Least (λ r. Covers r d) R

abbrev pub Covered : List Rule → ℕ → Type 0
Covered R d = (r : Rule) × (In r R × Covers r d)

-- if d is covered, it has a most specific rule
abbrev pub ResolvedAt : List Rule → ℕ → Type 0
ResolvedAt R d = Covered R d → (r : Rule) × MostSpecific R d r

abbrev pub ResolvedIn : List Rule → ℕ → ℕ → Type 0
ResolvedIn R u v = (k : ℕ) → u ≤ k → k ≤ v → ResolvedAt R k

abbrev pub ConflictFree : List Rule → Type 0
ConflictFree R = (d : ℕ) → ResolvedAt R d

-- they share an address and neither lies inside the other
abbrev pub Cross : Rule → Rule → Type 0
Cross r s = ((d : ℕ) × (Covers r d × Covers s d)) × (Inside r s → ⊥) × (Inside s r → ⊥)

-- the shared part is a union of ranges of R: each of its addresses lies in a rule of R that lies inside it
abbrev pub Filled : List Rule → Rule → Rule → Type 0
Filled R r s = (d : ℕ) → Covers r d → Covers s d → (t : Rule) × (In t R × Covers t d × Inside t r × Inside t s)

abbrev pub AllFilled : List Rule → Type 0
AllFilled R = (r s : Rule) → In r R → In s R → Cross r s → Filled R r s

-- two crossing rules of R whose shared part is not filled
abbrev pub Conflicting : List Rule → Type 0
Conflicting R = (r s : Rule) × (In r R × In s R × Cross r s × (Filled R r s → ⊥))

abbrev pub most_specific : List Rule → ℕ → Option Rule
most_specific R d = agree (least_finish R d) (greatest_start R d)

abbrev pub resolved_at : List Rule → ℕ → Bool
resolved_at R d = same_found (least_finish R d) (greatest_start R d)

unfoldable pub resolved_from : List Rule → ℕ → ℕ → Bool
resolved_from R d zero = true
resolved_from R d (suc n) = resolved_at R d && resolved_from R (suc d) n

-- the test at every address from u to v
unfoldable pub resolved_in : List Rule → ℕ → ℕ → Bool
resolved_in R u v = resolved_from R u (suc v - u)
