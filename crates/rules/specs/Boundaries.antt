-- Boundaries: the addresses at which another set of rules may begin to cover.
use Rattle.std.specs.Prelude.{◌≡◌, ℕ, zero, suc, ◌<◌, ◌≤◌, min, Bool, true, cond, ◌&&◌, ◌⊎◌, List, [], ◌∷◌, Some, None, Option, nat_le, nat_lt}
use Rattle.rules.specs.Rules.{Rule, In}
use Rattle.rules.specs.Conflicts.{resolved_at}

-- e is a start, or the next address after a finish
abbrev pub Boundary : List Rule → ℕ → Type 0
Boundary R e = (r : Rule) × (In r R × ((e ≡ r.start) ⊎ (e ≡ suc r.finish)))

-- the least boundary above d that is an address, or none
abbrev pub LeastBoundary : ℕ → List Rule → ℕ → Option ℕ → Type 0
LeastBoundary last R d None = (b : ℕ) → Boundary R b → d < b → b ≤ last → ⊥
LeastBoundary last R d (Some e) = Boundary R e × (d < e) × (e ≤ last) × ((b : ℕ) → Boundary R b → d < b → b ≤ last → e ≤ b)

abbrev pub nearer : ℕ → Option ℕ → ℕ
nearer b None = b
nearer b (Some c) = min b c

-- b if it lies above d and is an address, or the nearer one that is known
abbrev pub nearest : ℕ → ℕ → ℕ → Option ℕ → Option ℕ
nearest last d b o = cond (nat_lt d b && nat_le b last) (Some (nearer b o)) o

unfoldable pub next_boundary : ℕ → List Rule → ℕ → Option ℕ
next_boundary last [] d = None
next_boundary last (x ∷ xs) d = nearest last d x.start (nearest last d (suc x.finish) (next_boundary last xs d))

-- the test at d and at each boundary from there to v, in at most n steps
unfoldable pub walk : ℕ → List Rule → ℕ → ℕ → Bool
walk zero R d v = true
walk (suc n) R d v = resolved_at R d && elim (next_boundary v R d) [ None ↦ true | Some e ↦ walk n R e v ]
