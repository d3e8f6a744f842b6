-- What takes a change back.
use Rattle.std.proofs.Common.{◌≡◌, ℕ, Bool, true, false, ltb, List, [], ◌∷◌, ◌++◌, length, is_some, Some, None, Ok, Option, sym, refl, ap, ◌∙◌, arith}
use Rattle.std.proofs.lemmas.Bool.Decides.{nat_tests}
use Rattle.rules.specs.Rules.{Rule, rule, range, Same, Canonical, same, earlier, insert, hop_of}
use Rattle.rules.specs.Answers.{Sound, put_answer, put_rules, take_rules}
use Rattle.rules.proofs.Members.{delete-insert, hop_in, hop-insert, absent_hop}
use Rattle.rules.proofs.Places.{put_back, took}
use Rattle.batch.specs.declared.staging.Staged.{Staged}
use Rattle.batch.specs.Changes.{start_of, finish_of}
use Rattle.batch.specs.Applied.{undone, unwind}

-- a hop that was replaced is put back
pub replace_back : (u v h k : ℕ) (R : List Rule) → Canonical R → hop_of R u v ≡ Some k → insert (rule u v k) (insert (rule u v h) R) ≡ R
unfolding insert hop_of
replace_back u v h k [] c e = absurd (let z : ◌≡◌ {A = ℕ} 0 1 = cc in omega arith)
replace_back u v h k (x ∷ xs) c e = go (same (range u v) x) refl (replace_back u v h k xs c.2)
  where
    go : (b : Bool) → same (range u v) x ≡ b → (hop_of xs u v ≡ Some k → insert (rule u v k) (insert (rule u v h) xs) ≡ xs) → insert (rule u v k) (insert (rule u v h) (x ∷ xs)) ≡ x ∷ xs
    go true s ih =
        let m : Some x.hop ≡ Some k = rw s at e in
        let q : x.hop ≡ k = cc in
        let a : u ≡ x.start = grind (arith, nat_tests) in
        let b : v ≡ x.finish = grind (arith, nat_tests) in
        let r : rule u v k ≡ x = rw (a, b, ← q) in
        let y : same (rule u v k) (rule u v h) ≡ true = grind (arith, nat_tests) in
        rw (s, y, r)
    go false s ih =
        let m : hop_of xs u v ≡ Some k = rw s at e in
        let y = hop_in xs u v k m in
        let w = c.1 y.0 y.1.0 in
        let t : Same (range u v) y.0 = (y.1.1.0, y.1.1.1) in
        let q : earlier (rule u v h) x ≡ false = grind (arith, nat_tests) in
        rw (s, q, s, q) (ap (λ t. x ∷ t) (ih m))

-- an add that was accepted is taken back by the hop that the range had
pub added_back : (capacity last : ℕ) (R : List Rule) (u v h : ℕ) (o : Option ℕ) → Sound capacity last R → o ≡ hop_of R u v → Ok tt ≡ put_answer capacity R u v → undone capacity (put_rules capacity R u v h) u v o ≡ R
added_back capacity last R u v h o c e a = rw (← a) (go o e)
  where
    forward : ltb v u ≡ false
    forward = grind (arith, nat_tests)

    own : same (range u v) (rule u v h) ≡ true
    own = grind (arith, nat_tests)

    go : (o : Option ℕ) → o ≡ hop_of R u v → undone capacity (insert (rule u v h) R) u v o ≡ R
    go None e =
        let n : is_some (hop_of R u v) ≡ false = rw (← e) in
        let m : hop_of (insert (rule u v h) R) u v ≡ Some h = rw (hop-insert (rule u v h) R u v, own) in
        took (insert (rule u v h) R) u v h forward m ∙ delete-insert (rule u v h) R (absent_hop R u v n)
    go (Some k) e =
        let n : is_some (hop_of (insert (rule u v h) R) u v) ≡ true = rw (hop-insert (rule u v h) R u v, own) in
        rw (forward, n) (replace_back u v h k R c.canonical (sym e))

-- a range that was held is put back with its hop
pub removed_back : (capacity last : ℕ) (R : List Rule) (u v h : ℕ) → Sound capacity last R → false ≡ ltb v u → Some h ≡ hop_of R u v → put_rules capacity (take_rules R u v) u v h ≡ R
removed_back capacity last R u v h c t e = rw (took R u v h (sym t) (sym e)) (put_back capacity u v h R c.canonical c.within t e)

module _ {A : Type 0} (num : A → ℕ) (capacity : ℕ) where
  pub unwind_push : (R : List Rule) (xs : List (Staged A)) (x : Staged A)
      → unwind num capacity R (xs ++ x ∷ []) ≡ unwind num capacity (undone capacity R (num (start_of x.change)) (num (finish_of x.change)) x.note) xs
  unfolding unwind
  unwind_push R [] x = refl
  unwind_push R (y ∷ ys) x = ap (λ S. undone capacity S (num (start_of y.change)) (num (finish_of y.change)) y.note) (unwind_push R ys x)

  pub unwind_none : (R : List Rule) (xs : List (Staged A)) → length xs ≡ 0 → unwind num capacity R xs ≡ R
  unfolding unwind
  unwind_none R [] h = refl
  unwind_none R (x ∷ xs) h = absurd (omega arith)
