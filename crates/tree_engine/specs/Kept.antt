-- What a tree with its free nodes keeps.
use Rattle.std.specs.Prelude.{◌≡◌, ℕ, ◌+◌, ◌-◌, ◌<◌, ◌≤◌, true, cond, List, [], ◌∷◌, length, ◌==◌, nat_le, slice_index_or}
use Rattle.rules.specs.Rules.{Rule, ordered}
use Rattle.tree.specs.declared.node.Node.{Node}
use Rattle.rules.specs.Answers.{capped}
use Rattle.tree.specs.Tree.{uses, rules_in, Balanced}
use Rattle.tree.specs.Nodes.{Held, whole}
use Rattle.tree_engine.specs.declared.engine.Heads.{Heads}

-- the free nodes that served before, chained by their left links
abbrev pub front : List ℕ → ℕ
front [] = 0
front (f ∷ fs) = f

abbrev pub Links : {A : Type 0} → List (Node A) → List ℕ → Type 0
Links ns [] = Unit {0}
Links ns (f ∷ fs) = (0 < f) × (f ≤ length ns) × ((d : Node _) → (slice_index_or ns (f - 1) d).left ≡ front fs) × Links ns fs

abbrev pub times : ℕ → List ℕ → ℕ
times j [] = 0
times j (f ∷ fs) = times j fs + cond (f == j) 1 0

-- the numbers up to `fresh` are those in use and those of the chain, each once
pub record Shared {A : Type 0} (ns : List (Node A)) (u : ℕ → ℕ) (free fresh : ℕ) : Type 0 where
  pub chain : List ℕ
  pub first : front chain ≡ free
  pub links : Links ns chain
  pub share : (j : ℕ) → 0 < j → u j + times j chain ≡ cond (nat_le j fresh) 1 0

-- the rules of the tree behind the root
abbrev pub rules_at : {A : Type 0} → (A → ℕ) → List (Node A) → Heads → List Rule
rules_at num ns h = rules_in num (whole ns h.root)

pub record Kept {A : Type 0} (num : A → ℕ) (ns : List (Node A)) (h : Heads) : Type 0 where
  pub held : Held num ns h.root (whole ns h.root)
  pub balanced : Balanced (whole ns h.root)
  pub order : ordered (rules_at num ns h) ≡ true
  pub counted : length (rules_at num ns h) ≡ h.count
  pub shared : Shared ns (λ j. uses j (whole ns h.root)) h.spares.free h.spares.fresh
  pub within : h.spares.fresh ≤ capped (length ns)
