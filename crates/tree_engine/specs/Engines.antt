-- What a tree means as a set of rules.
use Rattle.std.specs.Prelude.{ℕ, List, length}
use Rattle.address.specs.declared.kind.AddressKind.{Ghosts}
use Rattle.rules.specs.Rules.{Rule}
use Rattle.tree_engine.specs.declared.engine.Engine.{Engine}
use Rattle.tree_engine.specs.Kept.{rules_at}

-- the rules from left to right, by the numbers of their kind
abbrev pub rules_of : {A : Type 0} {k : Ghosts A} {o e p : _} → Engine A k o e p → List Rule
rules_of {k = k} t = rules_at k.num t.nodes.now t.heads

-- how many nodes there are
abbrev pub places_of : {A : Type 0} {k o e p : _} → Engine A k o e p → ℕ
places_of t = length t.nodes.now
