-- A test of all addresses.
use Rattle.std.proofs.Common.{◌≡◌, ℕ, true, List, sym}
use Rattle.rules.specs.Rules.{Rule}
use Rattle.rules.specs.Conflicts.{resolved_in, ResolvedIn}
use Rattle.rules.proofs.Conflicts.{resolved_in_decides}

pub resolved_whole : (S : List Rule) (u v last : ℕ) → u ≡ 0 → v ≡ last → true ≡ resolved_in S u v → ResolvedIn S 0 last
resolved_whole S u v last p q t = let k : resolved_in S 0 last ≡ true = rw (← p, ← q) (sym t) in (resolved_in_decides S 0 last).0 k
