-- A canonical list cut at one of its rules, as a node cuts its tree: where a range goes, stands or is missing.
use Rattle.std.proofs.Common.{◌≡◌, ℕ, true, false, List, [], ◌∷◌, ◌++◌, Some, None, sym, refl, ap, ◌∙◌, subst, inl, inr, arith}
use Rattle.std.proofs.lemmas.Bool.Decides.{nat_tests}
use Rattle.rules.specs.Rules.{Rule, range, In, Same, Absent, Earlier, Canonical, earlier, same, insert, delete, hop_of}
use Rattle.rules.proofs.Members.{same_tells, earlier_tells, delete-++, delete_absent, hop-++}

pub in_left : (xs ys : List Rule) (y : Rule) → In y xs → In y (xs ++ ys)
in_left [] ys y i = elim i [ ]
in_left (x ∷ xs) ys y (inl e) = inl e
in_left (x ∷ xs) ys y (inr i) = inr (in_left xs ys y i)

pub in_right : (xs ys : List Rule) (y : Rule) → In y ys → In y (xs ++ ys)
in_right [] ys y i = i
in_right (x ∷ xs) ys y i = inr (in_right xs ys y i)

-- what stands left of f comes before it, and what stands right of it after
pub record Cut (xs : List Rule) (f : Rule) (ys : List Rule) : Type 0 where
  pub left : Canonical xs
  pub below : (y : Rule) → In y xs → Earlier y f
  pub above : (y : Rule) → In y ys → Earlier f y
  pub right : Canonical ys

pub cut : (xs : List Rule) (f : Rule) (ys : List Rule) → Canonical (xs ++ (f ∷ ys)) → Cut xs f ys
cut [] f ys c = record { left = tt; below = λ y i. elim i [ ]; above = c.1; right = c.2 }
cut (x ∷ xs) f ys c =
    let w = cut xs f ys c.2 in
    record {
      left = (c.0, (λ y i. c.1 y (in_left xs (f ∷ ys) y i)), w.left);
      below = λ y i. elim i [ inl e ↦ subst (λ z. Earlier z f) (sym e) (c.1 f (in_right xs (f ∷ ys) f (inl refl))) | inr k ↦ w.below y k ];
      above = w.above;
      right = w.right;
    }

pub before_true : (r f : Rule) → earlier r f ≡ true → Earlier r f
before_true r f q = let k = earlier_tells r f in grind arith

pub before_neither : (r f : Rule) → earlier r f ≡ false → earlier f r ≡ false → Same r f
before_neither r f p q = grind (arith, nat_tests)

absent_none : (u v : ℕ) (zs : List Rule) → Absent (range u v) zs → hop_of zs u v ≡ None
unfolding hop_of
absent_none u v [] a = refl
absent_none u v (z ∷ zs) a = let ih = absent_none u v zs (λ s i. a s (inr i)) in let n = a z (inl refl) in grind (arith, same_tells)

hop-front : (u v : ℕ) (xs zs : List Rule) → hop_of zs u v ≡ None → hop_of (xs ++ zs) u v ≡ hop_of xs u v
unfolding hop_of
hop-front u v [] zs n = n
hop-front u v (x ∷ xs) zs n = let ih = hop-front u v xs zs n in grind arith

-- absence left and right of f
module _ (r : Rule) (xs : List Rule) (f : Rule) (ys : List Rule) (C : Cut xs f ys) where
  pub absent_right : Earlier r f → Absent (range r.start r.finish) (f ∷ ys)
  absent_right e s i q = elim i [ inl z ↦ let q' : Same (range r.start r.finish) f = subst (λ y. Same (range r.start r.finish) y) z q in omega arith | inr k ↦ let a = C.above s k in omega arith ]

  pub absent_left : Earlier f r → Absent (range r.start r.finish) xs
  absent_left e s i q = let a = C.below s i in omega arith

  same_left : Same r f → Absent (range r.start r.finish) xs
  same_left e s i q = let a = C.below s i in omega arith

  same_right : Same r f → Absent (range r.start r.finish) ys
  same_right e s i q = let a = C.above s i in omega arith

  other : Earlier f r → same (range r.start r.finish) f ≡ false
  other e = grind (arith, nat_tests)

  -- deleting
  pub delete-left : Earlier r f → delete r.start r.finish (xs ++ (f ∷ ys)) ≡ delete r.start r.finish xs ++ (f ∷ ys)
  delete-left e = delete-++ r.start r.finish xs (f ∷ ys) ∙ ap (λ w. delete r.start r.finish xs ++ w) (delete_absent r.start r.finish (f ∷ ys) (absent_right e))

  pub delete_right : Earlier f r → delete r.start r.finish (xs ++ (f ∷ ys)) ≡ xs ++ (f ∷ delete r.start r.finish ys)
  unfolding delete
  delete_right e =
      let o = other e in
      delete-++ r.start r.finish xs (f ∷ ys) ∙ ap (λ w. w ++ delete r.start r.finish (f ∷ ys)) (delete_absent r.start r.finish xs (absent_left e)) ∙ rw o

  pub delete-here : Same r f → delete r.start r.finish (xs ++ (f ∷ ys)) ≡ xs ++ ys
  unfolding delete
  delete-here e =
      let o : same (range r.start r.finish) f ≡ true = grind (arith, nat_tests) in
      delete-++ r.start r.finish xs (f ∷ ys) ∙ ap (λ w. w ++ delete r.start r.finish (f ∷ ys)) (delete_absent r.start r.finish xs (same_left e))
      ∙ rw o (ap (λ w. xs ++ w) (delete_absent r.start r.finish ys (same_right e)))

  -- the hop
  pub hop-left : Earlier r f → hop_of (xs ++ (f ∷ ys)) r.start r.finish ≡ hop_of xs r.start r.finish
  hop-left e = hop-front r.start r.finish xs (f ∷ ys) (absent_none r.start r.finish (f ∷ ys) (absent_right e))

  pub hop_right : Earlier f r → hop_of (xs ++ (f ∷ ys)) r.start r.finish ≡ hop_of ys r.start r.finish
  unfolding hop_of
  hop_right e = let o = other e in hop-++ r.start r.finish xs (f ∷ ys) (absent_left e) ∙ rw o

  pub hop-here : Same r f → hop_of (xs ++ (f ∷ ys)) r.start r.finish ≡ Some f.hop
  unfolding hop_of
  hop-here e = let o : same (range r.start r.finish) f ≡ true = grind (arith, nat_tests) in hop-++ r.start r.finish xs (f ∷ ys) (same_left e) ∙ rw o

-- inserting
pub insert-left : (r f : Rule) (xs ys : List Rule) → Earlier r f → insert r (xs ++ (f ∷ ys)) ≡ insert r xs ++ (f ∷ ys)
unfolding insert
insert-left r f [] ys e = grind (arith, nat_tests)
insert-left r f (x ∷ xs) ys e = let ih = insert-left r f xs ys e in grind (arith, nat_tests)

pub insert_right : (r f : Rule) (xs ys : List Rule) → Earlier f r → ((y : Rule) → In y xs → Earlier y f) → insert r (xs ++ (f ∷ ys)) ≡ xs ++ (f ∷ insert r ys)
unfolding insert
insert_right r f [] ys e a = grind (arith, nat_tests)
insert_right r f (x ∷ xs) ys e a = let k = a x (inl refl) in let ih = insert_right r f xs ys e (λ y i. a y (inr i)) in grind (arith, nat_tests)
