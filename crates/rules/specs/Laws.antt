-- What the executable definitions mean, as statements that functions of this crate promise.
use Rattle.std.specs.Prelude.{◌≡◌, ℕ, ◌+◌, ◌<◌, ◌≤◌, false, List, Some, Decides}
use Rattle.rules.specs.Rules.{Rule, In, Inside, Same, Absent, Covers, Canonical, Bounded, earlier, ordered, insert, delete}
use Rattle.rules.specs.Search.{Best, closer, least_finish, greatest_start}
use Rattle.rules.specs.Conflicts.{MostSpecific, ResolvedAt, ResolvedIn, ConflictFree, AllFilled, Conflicting, most_specific, resolved_at, resolved_in}
use Rattle.rules.specs.Boundaries.{LeastBoundary, next_boundary, walk}

abbrev pub OrderedLaw : Type 0
OrderedLaw = (R : List Rule) → Decides (ordered R) (Canonical R)

-- no rule that covers d is earlier, or closer, than the one that the search finds
abbrev pub LeastFinishLaw : Type 0
LeastFinishLaw = (R : List Rule) (d : ℕ) → Best earlier (λ r. Covers r d) R (least_finish R d)

abbrev pub GreatestStartLaw : Type 0
GreatestStartLaw = (R : List Rule) (d : ℕ) → Best closer (λ r. Covers r d) R (greatest_start R d)

-- where the two searches find one rule it is the most specific one, and where there is one they both find it
abbrev pub MostSpecificLaw : Type 0
MostSpecificLaw = (R : List Rule) → Canonical R → (d : ℕ) (r : Rule) → (most_specific R d ≡ Some r → MostSpecific R d r) × (MostSpecific R d r → most_specific R d ≡ Some r)

abbrev pub ResolvedLaw : Type 0
ResolvedLaw = (R : List Rule) (u v : ℕ) → Decides (resolved_at R u) (ResolvedAt R u) × Decides (resolved_in R u v) (ResolvedIn R u v)

abbrev pub BoundaryLaw : Type 0
BoundaryLaw = (last : ℕ) (R : List Rule) (d : ℕ) → LeastBoundary last R d (next_boundary last R d)

-- inside is by addresses
abbrev pub InsideLaw : Type 0
InsideLaw = (r s : Rule) → r.start ≤ r.finish → (Inside r s → (d : ℕ) → Covers r d → Covers s d) × (((d : ℕ) → Covers r d → Covers s d) → Inside r s)

-- equal sets are equal lists
abbrev pub EqualSetsLaw : Type 0
EqualSetsLaw = (R S : List Rule) → Canonical R → Canonical S → ((r : Rule) → In r R → In r S) → ((r : Rule) → In r S → In r R) → R ≡ S

-- a most specific rule is the one of least finish and the one of greatest start, and a rule that is both is most specific
abbrev pub AgreeLaw : Type 0
AgreeLaw = (R : List Rule) → Canonical R → (d : ℕ) (r : Rule) → (MostSpecific R d r → (least_finish R d ≡ Some r) × (greatest_start R d ≡ Some r)) × ((least_finish R d ≡ Some r) × (greatest_start R d ≡ Some r) → MostSpecific R d r)

-- a set is conflict-free iff the shared part of every two crossing rules is filled, by one rule or by several
abbrev pub FilledLaw : Type 0
FilledLaw = (R : List Rule) → (ConflictFree R → AllFilled R) × (AllFilled R → ConflictFree R)

-- a new rule in a conflict-free set can only go wrong at addresses that it covers; where it does, two crossing rules are left unfilled
abbrev pub InsertionLaw : Type 0
InsertionLaw = (R : List Rule) (r : Rule) → ConflictFree R → Absent r R → let S = insert r R in
    Decides (resolved_in S r.start r.finish) (ConflictFree S) × (resolved_in S r.start r.finish ≡ false → Conflicting S)

-- and so can a removal
abbrev pub RemovalLaw : Type 0
RemovalLaw = (R : List Rule) (u v : ℕ) → ConflictFree R → let S = delete u v R in
    Decides (resolved_in S u v) (ConflictFree S) × (resolved_in S u v ≡ false → Conflicting S)

-- another hop for a held range changes nothing of it
abbrev pub ReplacementLaw : Type 0
ReplacementLaw = (R : List Rule) (r s : Rule) → In s R → Same r s → ConflictFree R → ConflictFree (insert r R)

-- the test from the first to the last address decides whether a set of ranges of that kind is conflict-free
abbrev pub WholeLaw : Type 0
WholeLaw = (last : ℕ) (R : List Rule) → Bounded last R → Decides (resolved_in R 0 last) (ConflictFree R) × (resolved_in R 0 last ≡ false → Conflicting R)

-- the test at boundaries decides the test at every address
abbrev pub WalkLaw : Type 0
WalkLaw = (n : ℕ) (R : List Rule) (u v : ℕ) → u ≤ v → v < u + n → Decides (walk n R u v) (ResolvedIn R u v)
