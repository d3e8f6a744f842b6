-- Words of the searches in a tree.
use Rattle.std.specs.Prelude.{ℕ, Bool, false, cond, ◌||◌, List, [], ◌∷◌, Some, None, Option, nat_le}
use Rattle.rules.specs.Rules.{Rule}
use Rattle.tree.specs.Tree.{RuleTree, leaf, node}

-- the hop of a tree's root
abbrev pub root_hop : {A : Type 0} → RuleTree A → Option ℕ
root_hop leaf = None
root_hop (node l i x r) = Some x.hop

abbrev pub starts_by : ℕ → Rule → Bool
starts_by d r = nat_le r.start d

-- whether a rule passes
unfoldable pub any : (Rule → Bool) → List Rule → Bool
any p [] = false
any p (x ∷ xs) = p x || any p xs

-- the first rule that passes
unfoldable pub first_with : (Rule → Bool) → List Rule → Option Rule
first_with p [] = None
first_with p (x ∷ xs) = cond (p x) (Some x) (first_with p xs)
