-- The first rule that covers an address, in a list cut at a rule.
use Rattle.std.proofs.Common.{◌≡◌, ℕ, ◌≤◌, Bool, true, false, cond, ◌||◌, ltb, leb, List, [], ◌∷◌, ◌++◌, Some, None, Option, sym, refl, ap, ◌∙◌, subst, inl, inr, arith}
use Rattle.std.proofs.lemmas.Bool.Decides.{nat_tests}
use Rattle.std.proofs.lemmas.Bool.{cond_both, cond-true, cond-false, or_parts}
use Rattle.rules.specs.declared.rule.Rule.{Rule as Stored}
use Rattle.rules.specs.Rules.{Rule, In, Canonical, covers}
use Rattle.rules.specs.Search.{least_finish}
use Rattle.rules.specs.Answers.{numbered}
use Rattle.rules.proofs.Places.{first, first_is_best}
use Rattle.mirror.specs.Mirrored.{or_else}
use Rattle.tree.specs.declared.node.Node.{Node}
use Rattle.tree.specs.Tree.{RuleTree, leaf, node, rules_in}
use Rattle.tree.specs.Nodes.{lesser, low_with, Shows, Parted}
use Rattle.tree.proofs.Cuts.{Cut, cut}
use Rattle.tree_search.specs.Searches.{starts_by, any, first_with}

-- lists
pub else_none : {X : Type 0} (o : Option X) → o ≡ or_else o None
else_none None = refl
else_none (Some x) = refl

pub else_assoc : {X : Type 0} (a b c : Option X) → or_else (or_else a b) c ≡ or_else a (or_else b c)
else_assoc None b c = refl
else_assoc (Some x) b c = refl

any-++ : (p : Rule → Bool) (xs ys : List Rule) → any p (xs ++ ys) ≡ any p xs || any p ys
unfolding any
any-++ p [] ys = refl
any-++ p (x ∷ xs) ys = go (p x) (any-++ p xs ys)
  where
    go : (b : Bool) → any p (xs ++ ys) ≡ any p xs || any p ys → (b || any p (xs ++ ys)) ≡ (b || any p xs) || any p ys
    go true e = refl
    go false e = e

first-++ : (p : Rule → Bool) (xs ys : List Rule) → first_with p (xs ++ ys) ≡ or_else (first_with p xs) (first_with p ys)
unfolding first_with
first-++ p [] ys = refl
first-++ p (x ∷ xs) ys = go (p x) (first-++ p xs ys)
  where
    go : (b : Bool) → first_with p (xs ++ ys) ≡ or_else (first_with p xs) (first_with p ys) → cond b (Some x) (first_with p (xs ++ ys)) ≡ or_else (cond b (Some x) (first_with p xs)) (first_with p ys)
    go true e = refl
    go false e = e

none_first : (p : Rule → Bool) (xs : List Rule) → any p xs ≡ false → first_with p xs ≡ None
unfolding any first_with
none_first p [] e = refl
none_first p (x ∷ xs) e = let q = or_parts (p x) (any p xs) e in cond-false _ _ _ q.0 ∙ none_first p xs q.1

some_first : (p : Rule → Bool) (xs : List Rule) (o : Option Rule) → any p xs ≡ true → or_else (first_with p xs) o ≡ first_with p xs
unfolding any first_with
some_first p [] o e = absurd (let z : ◌≡◌ {A = ℕ} 0 1 = ap (λ b. cond b 1 0) e in omega arith)
some_first p (x ∷ xs) o e = go (p x) e (some_first p xs o)
  where
    go : (b : Bool) → (b || any p xs) ≡ true → (any p xs ≡ true → or_else (first_with p xs) o ≡ first_with p xs) → or_else (cond b (Some x) (first_with p xs)) o ≡ cond b (Some x) (first_with p xs)
    go true e ih = refl
    go false e ih = ih e

first_none : (p : Rule → Bool) (xs : List Rule) → ((y : Rule) → In y xs → p y ≡ false) → first_with p xs ≡ None
unfolding first_with
first_none p [] f = refl
first_none p (x ∷ xs) f = cond-false _ _ _ (f x (inl refl)) ∙ first_none p xs (λ y i. f y (inr i))

first-same : (p q : Rule → Bool) (xs : List Rule) → ((y : Rule) → In y xs → p y ≡ q y) → first_with p xs ≡ first_with q xs
unfolding first_with
first-same p q [] f = refl
first-same p q (x ∷ xs) f = ap (λ b. cond b (Some x) (first_with p xs)) (f x (inl refl)) ∙ ap (λ o. cond (q x) (Some x) o) (first-same p q xs (λ y i. f y (inr i)))

first_is : (p : Rule → Bool) (xs : List Rule) → first_with p xs ≡ first p xs
unfolding first_with first
first_is p [] = refl
first_is p (x ∷ xs) = ap (λ o. cond (p x) (Some x) o) (first_is p xs)

pub least_is_first : (R : List Rule) (d : ℕ) → Canonical R → least_finish R d ≡ first_with (λ r. covers r d) R
least_is_first R d c = first_is_best (λ r. covers r d) R c ∙ sym (first_is (λ r. covers r d) R)

-- the least start tells whether a rule starts by d
module _ {A : Type 0} (num : A → ℕ) (d : ℕ) where
  lesser_tells : (x y : A) → leb (num (lesser num x y)) d ≡ (leb (num x) d || leb (num y) d)
  lesser_tells x y =
      cond_both (ltb (num y) (num x)) y x (λ z. leb (num z) d ≡ (leb (num x) d || leb (num y) d))
      (λ q. grind (arith, nat_tests)) (λ q. grind (arith, nat_tests))

  turn : (a b c : Bool) → (a || (b || c)) ≡ (a || (c || b))
  turn a true true = refl
  turn a true false = refl
  turn a false true = refl
  turn a false false = refl

  root_tells : (l : RuleTree A) (x : Stored A) (r : RuleTree A) → leb (num (low_with num l (low_with num r x.start))) d ≡ (any (starts_by d) (rules_in num l) || leb (num (low_with num r x.start)) d)
      → leb (num (low_with num r x.start)) d ≡ (any (starts_by d) (rules_in num r) || leb (num x.start) d)
      → leb (num (low_with num l (low_with num r x.start))) d ≡ any (starts_by d) (rules_in num l ++ (numbered num x ∷ rules_in num r))
  unfolding any
  root_tells l x r p q =
      p ∙ ap (λ b. any (starts_by d) (rules_in num l) || b) q
      ∙ turn (any (starts_by d) (rules_in num l)) (any (starts_by d) (rules_in num r)) (leb (num x.start) d)
      ∙ sym (any-++ (starts_by d) (rules_in num l) (numbered num x ∷ rules_in num r))

  low_tells : (t : RuleTree A) (y : A) → leb (num (low_with num t y)) d ≡ (any (starts_by d) (rules_in num t) || leb (num y) d)
  unfolding any
  low_tells leaf y = refl
  low_tells (node l i x r) y =
      lesser_tells (low_with num l (low_with num r x.start)) y
      ∙ ap (λ b. b || leb (num y) d) (root_tells l x r (low_tells l (low_with num r x.start)) (low_tells r x.start))

  -- what the node behind a link shows
  pub reach_tells : (k : ℕ) (n : Node A) (t : RuleTree A) → Shows num t k n → leb (num n.low) d ≡ any (starts_by d) (rules_in num t)
  reach_tells k n leaf S = absurd S
  reach_tells k n (node l i x r) S = ap (λ (m : Node A). leb (num m.low) d) S.1 ∙ root_tells l x r (low_tells l (low_with num r x.start)) (low_tells r x.start)

-- at a node
module _ {A : Type 0} (num : A → ℕ) {k : ℕ} {u : RuleTree A} {n : Node A} {B C : RuleTree A → Type 0} (O : Parted num u k n B C) where
  abbrev L : List Rule
  L = rules_in num O.lower

  abbrev R : List Rule
  R = rules_in num O.upper

  pub cut_at : Canonical (rules_in num u) → Cut (rules_in num O.lower) (numbered num n.rule) (rules_in num O.upper)
  cut_at c = cut L (numbered num n.rule) R (subst (λ t. Canonical (rules_in num t)) O.is c)

  rules_are : rules_in num u ≡ rules_in num O.lower ++ (numbered num n.rule ∷ rules_in num O.upper)
  rules_are = ap (rules_in num) O.is

  -- the first that starts by d
  module _ (d : ℕ) where
    pub started-left : any (starts_by d) L ≡ true → first_with (starts_by d) (rules_in num u) ≡ first_with (starts_by d) (rules_in num O.lower)
    started-left e = ap (first_with (starts_by d)) rules_are ∙ first-++ (starts_by d) L (numbered num n.rule ∷ R) ∙ some_first (starts_by d) L (first_with (starts_by d) (numbered num n.rule ∷ R)) e

    started-on : any (starts_by d) L ≡ false → first_with (starts_by d) (rules_in num u) ≡ first_with (starts_by d) (numbered num n.rule ∷ R)
    started-on e = ap (first_with (starts_by d)) rules_are ∙ first-++ (starts_by d) L (numbered num n.rule ∷ R) ∙ ap (λ o. or_else o (first_with (starts_by d) (numbered num n.rule ∷ R))) (none_first (starts_by d) L e)

    pub started-here : any (starts_by d) L ≡ false → true ≡ leb (num n.rule.start) d → first_with (starts_by d) (rules_in num u) ≡ Some (numbered num n.rule)
    unfolding first_with
    started-here e q = started-on e ∙ cond-true _ _ _ (sym q)

    pub started-right : any (starts_by d) L ≡ false → false ≡ leb (num n.rule.start) d → first_with (starts_by d) (rules_in num u) ≡ first_with (starts_by d) (rules_in num O.upper)
    unfolding first_with
    started-right e q = started-on e ∙ cond-false _ _ _ (sym q)

    -- the first that covers d
    module _ (c : Canonical (rules_in num u)) where
      pub cover-right : true ≡ ltb (num n.rule.finish) d → first_with (λ r. covers r d) (rules_in num u) ≡ first_with (λ r. covers r d) (rules_in num O.upper)
      unfolding first_with
      cover-right q =
          let C = cut_at c in
          let Y = numbered num n.rule in
          let y : covers Y d ≡ false = grind (arith, nat_tests) in
          ap (first_with (λ r. covers r d)) rules_are ∙ first-++ (λ r. covers r d) L (Y ∷ R)
          ∙ ap (λ o. or_else o (first_with (λ r. covers r d) (Y ∷ R))) (first_none (λ r. covers r d) L (λ x i. let b = C.below x i in grind (arith, nat_tests)))
          ∙ cond-false _ _ _ y

      pub cover-left : false ≡ ltb (num n.rule.finish) d → first_with (λ r. covers r d) (rules_in num u) ≡ or_else (first_with (λ r. covers r d) (rules_in num O.lower)) (first_with (starts_by d) (numbered num n.rule ∷ rules_in num O.upper))
      cover-left q =
          let C = cut_at c in
          let Y = numbered num n.rule in
          ap (first_with (λ r. covers r d)) rules_are ∙ first-++ (λ r. covers r d) L (Y ∷ R)
          ∙ ap (λ o. or_else (first_with (λ r. covers r d) L) o) (first-same (λ r. covers r d) (starts_by d) (Y ∷ R) (λ x i. late x (later x i C)))
        where
          late : (x : Rule) → d ≤ x.finish → covers x d ≡ starts_by d x
          late x h = grind (arith, nat_tests)

          later : (x : Rule) → In x (numbered num n.rule ∷ R) → Cut L (numbered num n.rule) R → d ≤ x.finish
          later x (inl e) C = let z = ap (λ (y : Rule). y.finish) e in grind (arith, nat_tests)
          later x (inr i) C = let a = C.above x i in grind (arith, nat_tests)

-- one turn to the left: the node and what stands right of it is marked where something of it starts by d
module _ (p : Rule → Bool) (T S : Option Rule) (N M : List Rule) (e : T ≡ or_else (or_else S (first_with p N)) (first_with p M)) where
  pub mark_new : any p N ≡ true → T ≡ or_else S (first_with p N)
  mark_new q = e ∙ else_assoc S (first_with p N) (first_with p M) ∙ ap (or_else S) (some_first p N (first_with p M) q)

  pub mark_old : any p N ≡ false → T ≡ or_else S (first_with p M)
  mark_old q = e ∙ else_assoc S (first_with p N) (first_with p M) ∙ ap (λ o. or_else S (or_else o (first_with p M))) (none_first p N q)

pub first_empty : (p : Rule → Bool) → first_with p [] ≡ None
unfolding first_with
first_empty p = refl

pub any_empty : (p : Rule → Bool) → any p [] ≡ false
unfolding any
any_empty p = refl

pub first_on : (p : Rule → Bool) (x : Rule) (xs : List Rule) → p x ≡ true → first_with p (x ∷ xs) ≡ Some x
unfolding first_with
first_on p x xs q = cond-true _ _ _ q

pub first_off : (p : Rule → Bool) (x : Rule) (xs : List Rule) → p x ≡ false → first_with p (x ∷ xs) ≡ first_with p xs
unfolding first_with
first_off p x xs q = cond-false _ _ _ q

pub any_on : (p : Rule → Bool) (x : Rule) (xs : List Rule) → p x ≡ true → any p (x ∷ xs) ≡ true
unfolding any
any_on p x xs q = ap (λ b. b || any p xs) q

pub any_off : (p : Rule → Bool) (x : Rule) (xs : List Rule) → p x ≡ false → any p (x ∷ xs) ≡ any p xs
unfolding any
any_off p x xs q = ap (λ b. b || any p xs) q

-- where the descent ends the marked rule and what stands right of it decide
pub covering_end : {A : Type 0} (num : A → ℕ) (d : ℕ) (t u : RuleTree A) (M : List Rule) → Canonical (rules_in num t)
    → first_with (λ r. covers r d) (rules_in num t) ≡ or_else (first_with (λ r. covers r d) (rules_in num u)) (first_with (starts_by d) M) → u ≡ leaf
    → least_finish (rules_in num t) d ≡ first_with (starts_by d) M
covering_end num d t u M C e q =
    least_is_first (rules_in num t) d C ∙ e ∙ ap (λ v. or_else (first_with (λ r. covers r d) (rules_in num v)) (first_with (starts_by d) M)) q
    ∙ ap (λ o. or_else o (first_with (starts_by d) M)) (first_empty (λ r. covers r d))
