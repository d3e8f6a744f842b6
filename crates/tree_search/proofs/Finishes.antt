-- The finishes next to an address, in a list cut at a rule.
use Rattle.std.proofs.Common.{◌≡◌, ℕ, ◌<◌, ◌≤◌, Bool, true, false, cond, ltb, leb, List, [], ◌∷◌, ◌++◌, Some, None, Option, sym, refl, ap, ◌∙◌, inl, inr, arith}
use Rattle.std.proofs.lemmas.Bool.Decides.{nat_tests}
use Rattle.std.proofs.lemmas.Bool.{cond-true, cond-false}
use Rattle.rules.specs.Rules.{Rule, In, Canonical}
use Rattle.rules.specs.Answers.{numbered}
use Rattle.mirror.specs.Mirrored.{or_else, finish_from, finish_before}
use Rattle.tree.specs.declared.node.Node.{Node}
use Rattle.tree.specs.Tree.{RuleTree, rules_in}
use Rattle.tree.specs.Nodes.{Parted}
use Rattle.tree.proofs.Cuts.{Cut}
use Rattle.tree_search.proofs.Firsts.{else_assoc, cut_at}

from-++ : (d : ℕ) (xs ys : List Rule) → finish_from (xs ++ ys) d ≡ or_else (finish_from xs d) (finish_from ys d)
unfolding finish_from
from-++ d [] ys = refl
from-++ d (x ∷ xs) ys = go (leb d x.finish) (from-++ d xs ys)
  where
    go : (b : Bool) → finish_from (xs ++ ys) d ≡ or_else (finish_from xs d) (finish_from ys d) → cond b (Some x.finish) (finish_from (xs ++ ys) d) ≡ or_else (cond b (Some x.finish) (finish_from xs d)) (finish_from ys d)
    go true e = refl
    go false e = e

before-++ : (d : ℕ) (xs ys : List Rule) → finish_before (xs ++ ys) d ≡ or_else (finish_before ys d) (finish_before xs d)
unfolding finish_before
before-++ d [] ys = go (finish_before ys d)
  where
    go : (o : Option ℕ) → o ≡ or_else o None
    go None = refl
    go (Some x) = refl
before-++ d (x ∷ xs) ys = ap (λ o. or_else o (cond (ltb x.finish d) (Some x.finish) None)) (before-++ d xs ys) ∙ else_assoc (finish_before ys d) (finish_before xs d) (cond (ltb x.finish d) (Some x.finish) None)

from_none : (d : ℕ) (xs : List Rule) → ((y : Rule) → In y xs → y.finish < d) → finish_from xs d ≡ None
unfolding finish_from
from_none d [] f = refl
from_none d (x ∷ xs) f = let h = f x (inl refl) in let q : leb d x.finish ≡ false = grind (arith, nat_tests) in cond-false _ _ _ q ∙ from_none d xs (λ y i. f y (inr i))

before_none : (d : ℕ) (xs : List Rule) → ((y : Rule) → In y xs → d ≤ y.finish) → finish_before xs d ≡ None
unfolding finish_before
before_none d [] f = refl
before_none d (x ∷ xs) f =
    let h = f x (inl refl) in
    let q : ltb x.finish d ≡ false = grind (arith, nat_tests) in
    ap (λ o. or_else o (cond (ltb x.finish d) (Some x.finish) None)) (before_none d xs (λ y i. f y (inr i))) ∙ cond-false _ _ _ q

module _ {A : Type 0} (num : A → ℕ) {k : ℕ} {u : RuleTree A} {n : Node A} {B C : RuleTree A → Type 0} (O : Parted num u k n B C) (c : Canonical (rules_in num u)) (d : ℕ) (T o : Option ℕ) where
  rules_are : rules_in num u ≡ rules_in num O.lower ++ (numbered num n.rule ∷ rules_in num O.upper)
  rules_are = ap (rules_in num) O.is

  pub from_right : true ≡ ltb (num n.rule.finish) d → T ≡ or_else (finish_from (rules_in num u) d) o → T ≡ or_else (finish_from (rules_in num O.upper) d) o
  unfolding finish_from
  from_right q e =
      let C = cut_at num O c in
      let y : leb d (num n.rule.finish) ≡ false = grind (arith, nat_tests) in
      e ∙ ap (λ w. or_else w o)
      (ap (λ w. finish_from w d) rules_are ∙ from-++ d (rules_in num O.lower) (numbered num n.rule ∷ rules_in num O.upper)
      ∙ ap (λ w. or_else w (finish_from (numbered num n.rule ∷ rules_in num O.upper) d)) (from_none d (rules_in num O.lower) (λ x i. let b = C.below x i in grind (arith, nat_tests)))
      ∙ cond-false _ _ _ y)

  pub from_left : false ≡ ltb (num n.rule.finish) d → T ≡ or_else (finish_from (rules_in num u) d) o → T ≡ or_else (finish_from (rules_in num O.lower) d) (Some (num n.rule.finish))
  unfolding finish_from
  from_left q e =
      let y : leb d (num n.rule.finish) ≡ true = grind (arith, nat_tests) in
      let w : finish_from (rules_in num u) d ≡ or_else (finish_from (rules_in num O.lower) d) (Some (num n.rule.finish)) =
      ap (λ w. finish_from w d) rules_are ∙ from-++ d (rules_in num O.lower) (numbered num n.rule ∷ rules_in num O.upper)
      ∙ ap (λ w. or_else (finish_from (rules_in num O.lower) d) w) (cond-true _ _ _ y) in
      e ∙ ap (λ w. or_else w o) w ∙ else_assoc (finish_from (rules_in num O.lower) d) (Some (num n.rule.finish)) o

  pub before_right : true ≡ ltb (num n.rule.finish) d → T ≡ or_else (finish_before (rules_in num u) d) o → T ≡ or_else (finish_before (rules_in num O.upper) d) (Some (num n.rule.finish))
  unfolding finish_before
  before_right q e =
      let w : finish_before (rules_in num u) d ≡ or_else (or_else (finish_before (rules_in num O.upper) d) (Some (num n.rule.finish))) (finish_before (rules_in num O.lower) d) =
      ap (λ w. finish_before w d) rules_are ∙ before-++ d (rules_in num O.lower) (numbered num n.rule ∷ rules_in num O.upper)
      ∙ ap (λ w. or_else (or_else (finish_before (rules_in num O.upper) d) w) (finish_before (rules_in num O.lower) d)) (cond-true _ _ _ (sym q)) in
      e ∙ ap (λ w. or_else w o) w ∙ short (finish_before (rules_in num O.upper) d) (finish_before (rules_in num O.lower) d)
    where
      short : (a b : Option ℕ) → or_else (or_else (or_else a (Some (num n.rule.finish))) b) o ≡ or_else a (Some (num n.rule.finish))
      short None b = refl
      short (Some x) b = refl

  pub before-left : false ≡ ltb (num n.rule.finish) d → T ≡ or_else (finish_before (rules_in num u) d) o → T ≡ or_else (finish_before (rules_in num O.lower) d) o
  before-left q e =
      let C = cut_at num O c in
      e ∙ ap (λ w. or_else w o)
      (ap (λ w. finish_before w d) rules_are ∙ before-++ d (rules_in num O.lower) (numbered num n.rule ∷ rules_in num O.upper)
      ∙ ap (λ w. or_else w (finish_before (rules_in num O.lower) d)) (before_none d (numbered num n.rule ∷ rules_in num O.upper) (λ x i. later x i C)))
    where
      later : (x : Rule) → In x (numbered num n.rule ∷ rules_in num O.upper) → Cut (rules_in num O.lower) (numbered num n.rule) (rules_in num O.upper) → d ≤ x.finish
      later x (inl e) C = let z = ap (λ (y : Rule). y.finish) e in grind (arith, nat_tests)
      later x (inr i) C = let a = C.above x i in grind (arith, nat_tests)

pub from_end : (d : ℕ) → finish_from [] d ≡ None
unfolding finish_from
from_end d = refl

pub before-end : (d : ℕ) → finish_before [] d ≡ None
unfolding finish_before
before-end d = refl
