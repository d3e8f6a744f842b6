-- The mirrored set: each [u, v] becomes [last - v, last - u], in the canonical order of the mirrored ranges.
use Rattle.std.specs.Prelude.{◌≡◌, ℕ, suc, ◌-◌, ◌≤◌, cond, List, [], ◌∷◌, Some, None, Option, nat_le, nat_lt}
use Rattle.std.specs.Option.{option_map}
use Rattle.rules.specs.Rules.{Rule, rule, insert, Canonical, Bounded}
use Rattle.rules.specs.Search.{least_finish, greatest_start}
use Rattle.rules.specs.Boundaries.{next_boundary, nearest}

abbrev pub mirror : ℕ → Rule → Rule
mirror last r = rule (last - r.finish) (last - r.start) r.hop

unfoldable pub mirrored : ℕ → List Rule → List Rule
mirrored last [] = []
mirrored last (x ∷ xs) = insert (mirror last x) (mirrored last xs)

-- what is found mirrored, counted from its own end again
abbrev pub back : ℕ → Option Rule → Option Rule
back last None = None
back last (Some r) = Some (mirror last r)

-- the greatest start is the least finish of the mirrored rules
abbrev pub GreatestStartLaw : Type 0
GreatestStartLaw = (last : ℕ) (R : List Rule) (d : ℕ) → Canonical R → Bounded last R → d ≤ last → greatest_start R d ≡ back last (least_finish (mirrored last R) (last - d))

abbrev pub or_else : {X : Type 0} → Option X → Option X → Option X
or_else None o = o
or_else (Some x) o = Some x

-- in canonical order: the first finish from d on, and the last finish before d
unfoldable pub finish_from : List Rule → ℕ → Option ℕ
finish_from [] d = None
finish_from (x ∷ xs) d = cond (nat_le d x.finish) (Some x.finish) (finish_from xs d)

unfoldable pub finish_before : List Rule → ℕ → Option ℕ
finish_before [] d = None
finish_before (x ∷ xs) d = or_else (finish_before xs d) (cond (nat_lt x.finish d) (Some x.finish) None)

-- a boundary that may be known, if it lies above d and is an address, or the nearer one
abbrev pub nearest_of : ℕ → ℕ → Option ℕ → Option ℕ → Option ℕ
nearest_of last d None o = o
nearest_of last d (Some b) o = nearest last d b o

-- a finish, as the boundary behind it
abbrev pub behind : Option ℕ → Option ℕ
behind None = None
behind (Some f) = Some (suc f)

-- the next boundary is the nearer of the first finish from d on and the next start, which the mirrored set has as the last finish before
abbrev pub NextBoundaryLaw : Type 0
NextBoundaryLaw = (last : ℕ) (R : List Rule) (d : ℕ) → Canonical R → Bounded last R → d ≤ last
    → next_boundary last R d ≡ nearest_of last d (option_map (λ f. last - f) (finish_before (mirrored last R) (last - d))) (nearest_of last d (behind (finish_from R d)) None)
