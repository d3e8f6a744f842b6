-- The node of a range: the ways of one turn.
use Rattle.std.proofs.Common.{◌≡◌, ℕ, true, false, [], None, sym, refl, ap, ◌∙◌}
use Rattle.std.proofs.lemmas.Bool.{cond-true, cond-false}
use Rattle.rules.specs.declared.rule.Rule.{Rule as Stored}
use Rattle.rules.specs.Rules.{Canonical, hop_of}
use Rattle.rules.specs.Answers.{numbered}
use Rattle.tree.specs.declared.node.Node.{Node}
use Rattle.tree.specs.Tree.{RuleTree, node, rules_in, before, look}
use Rattle.tree.specs.Nodes.{Parted}
use Rattle.tree.proofs.Cuts.{before_true, before_neither, hop-left, hop_right, hop-here}
use Rattle.tree_search.specs.Searches.{root_hop}
use Rattle.tree_search.proofs.Firsts.{cut_at}

module _ {A : Type 0} (num : A → ℕ) {k : ℕ} {u : RuleTree A} where
  module _ {n : Node A} {B C : RuleTree A → Type 0} (O : Parted num u k n B C) (x : Stored A) where
    hops-are : hop_of (rules_in num u) (num x.start) (num x.finish) ≡ hop_of (rules_in num (node O.lower k n.rule O.upper)) (num x.start) (num x.finish)
    hops-are = ap (λ t. hop_of (rules_in num t) (num x.start) (num x.finish)) O.is

    pub find-left : before num x n.rule ≡ true
        → (look (before num) x u ≡ look (before num) x O.lower)
        × (Canonical (rules_in num u) → Canonical (rules_in num O.lower) × (hop_of (rules_in num u) (num x.start) (num x.finish) ≡ hop_of (rules_in num O.lower) (num x.start) (num x.finish)))
    find-left h = (
      ap (look (before num) x) O.is ∙ cond-true _ _ _ h,
      λ c. let C = cut_at num O c in (C.left, hops-are ∙ hop-left (numbered num x) (rules_in num O.lower) (numbered num n.rule) (rules_in num O.upper) C (before_true (numbered num x) (numbered num n.rule) h)),
    )

    pub find-right : before num x n.rule ≡ false → before num n.rule x ≡ true
        → (look (before num) x u ≡ look (before num) x O.upper)
        × (Canonical (rules_in num u) → Canonical (rules_in num O.upper) × (hop_of (rules_in num u) (num x.start) (num x.finish) ≡ hop_of (rules_in num O.upper) (num x.start) (num x.finish)))
    find-right h h' = (
      ap (look (before num) x) O.is ∙ cond-false _ _ _ h ∙ cond-true _ _ _ h',
      λ c. let C = cut_at num O c in (C.right, hops-are ∙ hop_right (numbered num x) (rules_in num O.lower) (numbered num n.rule) (rules_in num O.upper) C (before_true (numbered num n.rule) (numbered num x) h')),
    )

    pub find-here : before num x n.rule ≡ false → before num n.rule x ≡ false
        → (look (before num) x u ≡ k) × (Canonical (rules_in num u) → hop_of (rules_in num u) (num x.start) (num x.finish) ≡ root_hop u)
    find-here h h' = (
      ap (look (before num) x) O.is ∙ cond-false _ _ _ h ∙ cond-false _ _ _ h',
      λ c. hops-are ∙ hop-here (numbered num x) (rules_in num O.lower) (numbered num n.rule) (rules_in num O.upper) (cut_at num O c) (before_neither (numbered num x) (numbered num n.rule) h h') ∙ sym (ap root_hop O.is),
    )

pub no_hop : (u v : ℕ) → hop_of [] u v ≡ None
unfolding hop_of
no_hop u v = refl
