use Rattle.std.proofs.Common.{◌≡◌, List, [], ◌∷◌, MatchOption}
use Rattle.rules.specs.Rules.{Rule, Canonical, covers}
use Rattle.rules.specs.Answers.{numbered}
use Rattle.mirror.specs.Mirrored.{or_else}
use Rattle.tree.specs.Tree.{RuleTree, rules_in}
use Rattle.tree.specs.Nodes.{Held, stored_height}
use Rattle.tree_search.specs.Searches.{starts_by, first_with}
use Rattle.tree_search.proofs.cover.first_covering.Given as goal

-- the first of the tree that is left, or else of the marked rule and the tree to its right, decides the whole
abbrev pub invariant-loop-n : goal.invariant-loop-n
invariant-loop-n g l =
    let num = g.A.AddressKind.num in
    let d = num l.d in
    (t : RuleTree _) → Held num l.fn.tree.nodes.now l.fn.tree.link t → Canonical (rules_in num t)
    → (u : RuleTree _) × (M : List Rule) × Held num l.tree.nodes.now l.tree.link u
    × MatchOption l.mark (M ≡ []) (λ m. (v : RuleTree _) × Held num m.1.nodes.now m.1.link v × (M ≡ numbered num m.0 ∷ rules_in num v))
    × Canonical (rules_in num u)
    × (first_with (λ r. covers r d) (rules_in num t) ≡ or_else (first_with (λ r. covers r d) (rules_in num u)) (first_with (starts_by d) M))

abbrev pub decreases-loop-n : goal.decreases-loop-n
decreases-loop-n g l = stored_height l.tree.nodes.now l.tree.link
