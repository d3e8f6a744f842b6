-- Membership, order, and what insert, delete and hop_of do to a set.
use Rattle.std.proofs.Common.{◌≡◌, ℕ, ◌≤◌, true, false, cond, ◌⊎◌, List, [], ◌∷◌, ◌++◌, is_some, Some, None, refl, ap₂, inl, inr, arith}
use Rattle.std.proofs.lemmas.Bool.{cond_both}
use Rattle.std.proofs.lemmas.Bool.Decides.{nat_tests}
use Rattle.rules.specs.Rules.{Rule, range, In, Covers, Same, Absent, Earlier, Canonical, earlier, same, covers, insert, delete, hop_of}

pub same_tells : (r s : Rule) → ((same r s ≡ true) × Same r s) ⊎ ((same r s ≡ false) × (Same r s → ⊥))
same_tells r s = grind (arith, nat_tests)

pub earlier_tells : (r s : Rule) → ((earlier r s ≡ true) × Earlier r s) ⊎ ((earlier r s ≡ false) × (Earlier r s → ⊥))
earlier_tells r s = grind (arith, nat_tests)

pub covers_tells : (r : Rule) (d : ℕ) → ((covers r d ≡ true) × Covers r d) ⊎ ((covers r d ≡ false) × (Covers r d → ⊥))
covers_tells r d = grind (arith, nat_tests)

-- membership in what insert gives
pub in_insert_old : (r : Rule) (R : List Rule) (s : Rule) → In s (insert r R) → (s ≡ r) ⊎ In s R
unfolding insert
in_insert_old r [] s h = grind arith
in_insert_old r (x ∷ xs) s h = let ih = in_insert_old r xs s in grind arith

pub in_insert_new : (r : Rule) (R : List Rule) → In r (insert r R)
unfolding insert
in_insert_new r [] = inl refl
in_insert_new r (x ∷ xs) = let ih = in_insert_new r xs in grind arith

pub in_insert_keep : (r : Rule) (R : List Rule) (s : Rule) → (Same r s → ⊥) → In s R → In s (insert r R)
unfolding insert
in_insert_keep r [] s n h = elim h [ ]
in_insert_keep r (x ∷ xs) s n h = let ih = in_insert_keep r xs s n in grind (arith, same_tells)

pub insert-canonical : (r : Rule) (R : List Rule) → r.start ≤ r.finish → Canonical R → Canonical (insert r R)
unfolding insert
insert-canonical r [] w c = (w, (λ y h. absurd h), tt)
insert-canonical r (x ∷ xs) w c =
    let ih = insert-canonical r xs w c.2 in
    cond_both (same r x) (r ∷ xs) (cond (earlier r x) (r ∷ (x ∷ xs)) (x ∷ insert r xs)) Canonical
    (λ p. (w, (λ y h. let k = c.1 y in grind (arith, nat_tests)), c.2))
    (λ p.
    cond_both (earlier r x) (r ∷ (x ∷ xs)) (x ∷ insert r xs) Canonical
    (λ q. (w, (λ y h. let k = c.1 y in grind (arith, nat_tests)), c))
    (λ q. (c.0, (λ y h. let k = c.1 y in let o = in_insert_old r xs y h in grind (arith, nat_tests)), ih)))

pub delete_absent : (u v : ℕ) (R : List Rule) → Absent (range u v) R → delete u v R ≡ R
unfolding delete
delete_absent u v [] a = refl
delete_absent u v (x ∷ xs) a = let ih = delete_absent u v xs (λ s h. a s (inr h)) in let n = a x (inl refl) in grind (arith, same_tells)

pub delete-insert : (r : Rule) (R : List Rule) → Absent r R → delete r.start r.finish (insert r R) ≡ R
unfolding insert delete
delete-insert r [] a = grind (arith, nat_tests)
delete-insert r (x ∷ xs) a = let ih = delete-insert r xs (λ s h. a s (inr h)) in let n = a x (inl refl) in let o = delete_absent r.start r.finish (x ∷ xs) a in grind (arith, nat_tests)

pub hop-insert : (r : Rule) (R : List Rule) (u v : ℕ) → hop_of (insert r R) u v ≡ cond (same (range u v) r) (Some r.hop) (hop_of R u v)
unfolding insert hop_of
hop-insert r [] u v = refl
hop-insert r (x ∷ xs) u v = let ih = hop-insert r xs u v in grind (arith, nat_tests)

pub hop-delete : (a b : ℕ) (R : List Rule) (u v : ℕ) → hop_of (delete a b R) u v ≡ cond (same (range u v) (range a b)) None (hop_of R u v)
unfolding delete hop_of
hop-delete a b [] u v = grind (arith, nat_tests)
hop-delete a b (x ∷ xs) u v = let ih = hop-delete a b xs u v in grind (arith, nat_tests)

pub in_delete : (u v : ℕ) (R : List Rule) (s : Rule) → In s (delete u v R) → In s R × (Same (range u v) s → ⊥)
unfolding delete
in_delete u v [] s h = elim h [ ]
in_delete u v (x ∷ xs) s h = let ih = in_delete u v xs s in grind (arith, same_tells)

pub in_delete_keep : (u v : ℕ) (R : List Rule) (s : Rule) → In s R → (Same (range u v) s → ⊥) → In s (delete u v R)
unfolding delete
in_delete_keep u v [] s h n = elim h [ ]
in_delete_keep u v (x ∷ xs) s h n = let ih = in_delete_keep u v xs s in grind (arith, same_tells)

pub delete-canonical : (u v : ℕ) (R : List Rule) → Canonical R → Canonical (delete u v R)
unfolding delete
delete-canonical u v [] c = tt
delete-canonical u v (x ∷ xs) c =
    let ih = delete-canonical u v xs c.2 in
    cond_both (same (range u v) x) (delete u v xs) (x ∷ delete u v xs) Canonical (λ e. ih) (λ e. (c.0, (λ y h. c.1 y (in_delete u v xs y h).0), ih))

-- a canonical list holds a range once
pub in_same : (R : List Rule) → Canonical R → (r s : Rule) → In r R → In s R → Same r s → r ≡ s
in_same [] c r s h k e = elim h [ ]
in_same (x ∷ xs) c r s h k e = let ih = in_same xs c.2 r s in let a = c.1 s in let b = c.1 r in grind arith

pub well_formed : (R : List Rule) → Canonical R → (r : Rule) → In r R → r.start ≤ r.finish
well_formed [] c r h = elim h [ ]
well_formed (x ∷ xs) c r h = let o = c.0 in let ih = well_formed xs c.2 r in grind arith

-- equal sets are equal lists
pub canonical_ext : (R S : List Rule) → Canonical R → Canonical S → ((r : Rule) → In r R → In r S) → ((r : Rule) → In r S → In r R) → R ≡ S
canonical_ext [] [] c d f g = refl
canonical_ext [] (y ∷ ys) c d f g = elim (g y (inl refl)) [ ]
canonical_ext (x ∷ xs) [] c d f g = elim (f x (inl refl)) [ ]
canonical_ext (x ∷ xs) (y ∷ ys) c d f g =
    let h = f x (inl refl) in
    let k = g y (inl refl) in
    let a = c.1 y in
    let b = d.1 x in
    let e : x ≡ y = grind arith in
    ap₂ ◌∷◌ e (canonical_ext xs ys c.2 d.2 (λ r i. let a = c.1 r i in let k = f r (inr i) in grind arith) (λ r i. let a = d.1 r i in let k = g r (inr i) in grind arith))

-- at a place
pub insert_split : (r : Rule) (xs ys : List Rule) → ((y : Rule) → In y xs → Earlier y r) → ((y : Rule) → In y ys → Earlier r y) → insert r (xs ++ ys) ≡ xs ++ (r ∷ ys)
unfolding insert
insert_split r [] [] a b = refl
insert_split r [] (y ∷ ys) a b = let k = b y (inl refl) in grind (arith, nat_tests)
insert_split r (x ∷ xs) ys a b = let k = a x (inl refl) in let ih = insert_split r xs ys (λ y h. a y (inr h)) b in grind (arith, nat_tests)

pub insert_replace : (r x : Rule) (xs ys : List Rule) → Same r x → ((y : Rule) → In y xs → Earlier y r) → insert r (xs ++ (x ∷ ys)) ≡ xs ++ (r ∷ ys)
unfolding insert
insert_replace r x [] ys e a = grind (arith, nat_tests)
insert_replace r x (y ∷ xs) ys e a = let k = a y (inl refl) in let ih = insert_replace r x xs ys e (λ y h. a y (inr h)) in grind (arith, nat_tests)

-- two that go in one after the other
pub insert_again : (r s : Rule) (R : List Rule) → Same r s → insert r (insert s R) ≡ insert r R
unfolding insert
insert_again r s [] e = grind (arith, nat_tests)
insert_again r s (x ∷ xs) e = let ih = insert_again r s xs e in grind (arith, nat_tests)

pub insert_swap : (r s : Rule) (R : List Rule) → (Same r s → ⊥) → insert r (insert s R) ≡ insert s (insert r R)
unfolding insert
insert_swap r s [] n = grind (arith, nat_tests)
insert_swap r s (x ∷ xs) n = let ih = insert_swap r s xs n in grind (arith, same_tells, earlier_tells)

-- what is deleted may go before or after another goes in
pub delete_swap : (u v : ℕ) (r : Rule) (R : List Rule) → Canonical R → delete u v (insert r R) ≡ cond (same (range u v) r) (delete u v R) (insert r (delete u v R))
unfolding insert delete
delete_swap u v r [] c = grind (arith, nat_tests)
delete_swap u v r (x ∷ xs) c =
    let ih = delete_swap u v r xs c.2 in
    let k : earlier r x ≡ true → insert r (delete u v xs) ≡ r ∷ delete u v xs = λ e. insert_split r [] (delete u v xs) (λ y i. elim i [ ]) (λ y i. let w = c.1 y (in_delete u v xs y i).0 in grind (arith, nat_tests)) in
    grind (arith, nat_tests)

pub delete-++ : (u v : ℕ) (xs ys : List Rule) → delete u v (xs ++ ys) ≡ delete u v xs ++ delete u v ys
unfolding delete
delete-++ u v [] ys = refl
delete-++ u v (x ∷ xs) ys = let ih = delete-++ u v xs ys in grind (arith, nat_tests)

pub hop-++ : (u v : ℕ) (xs ys : List Rule) → Absent (range u v) xs → hop_of (xs ++ ys) u v ≡ hop_of ys u v
unfolding hop_of
hop-++ u v [] ys a = refl
hop-++ u v (x ∷ xs) ys a = let k = a x (inl refl) in let ih = hop-++ u v xs ys (λ s h. a s (inr h)) in grind (arith, nat_tests)

-- a hop is held iff a rule is
pub hop_in : (R : List Rule) (u v h : ℕ) → hop_of R u v ≡ Some h → (r : Rule) × (In r R × Same (range u v) r × (r.hop ≡ h))
unfolding hop_of
hop_in [] u v h e = cc
hop_in (x ∷ xs) u v h e =
    elim (same_tells (range u v) x) [
      | inl p ↦ (x, (inl refl, p.1, cc))
      | inr p ↦ let k = hop_in xs u v h (cc) in (k.0, (inr k.1.0, k.1.1, k.1.2))
    ]

pub in_hop : (R : List Rule) → Canonical R → (r : Rule) → In r R → hop_of R r.start r.finish ≡ Some r.hop
unfolding hop_of
in_hop [] c r h = elim h [ ]
in_hop (x ∷ xs) c r (inl e) = grind (arith, nat_tests)
in_hop (x ∷ xs) c r (inr h) = let k = c.1 r h in let ih = in_hop xs c.2 r h in grind (arith, nat_tests)

pub absent_hop : (R : List Rule) (u v : ℕ) → is_some (hop_of R u v) ≡ false → Absent (range u v) R
unfolding hop_of
absent_hop [] u v n = λ s i e. i
absent_hop (x ∷ xs) u v n = λ s i e. let ih = absent_hop xs u v in grind (arith, same_tells)
