-- What a put and a take leave in the row, by the rules that it holds.
use Rattle.std.proofs.Common.{◌≡◌, ℕ, suc, ◌+◌, ◌-◌, ◌<◌, ◌≤◌, true, false, ltb, List, ◌∷◌, ◌++◌, map, length, take, drop, set, is_some, Ok, Err, sym, ◌∙◌, arith}
use borrow.Author.Tests.{false-ltb}
use Rattle.std.proofs.Math.Seq.{take-set-lt}
use Rattle.std.specs.List.{insert as inserted, remove}
use Rattle.std.proofs.lemmas.List.{map-set, map-append, take-map, drop-map, take_at, take-take, take-append-le, length-take-le}
use Rattle.std.proofs.lemmas.Bool.Decides.{nat_tests}
use Rattle.rules.specs.declared.rule.Rule.{Rule as Stored}
use Rattle.rules.specs.Rules.{Rule, rule, hop_of, insert, delete, ordered, Canonical}
use Rattle.rules.specs.Answers.{numbered, place_of, put_answer, put_rules, take_answer, take_rules}
use Rattle.rules.proofs.Members.{insert-canonical, delete-canonical}
use Rattle.rules.proofs.Places.{ordered_decides, place-insert, place_set, place-delete}
use Rattle.row_store.specs.Held.{held, IsPlace}
use Rattle.row_store.specs.Kept.{held-length}

map_inserted : {X Y : Type 0} (f : X → Y) (xs : List X) (i : ℕ) (y : X) → map f (inserted xs i y) ≡ inserted (map f xs) i (f y)
map_inserted f xs i y = rw (map-append f (take i xs) (y ∷ drop i xs), take-map f i xs, drop-map f i xs)

map_removed : {X Y : Type 0} (f : X → Y) (xs : List X) (i : ℕ) → map f (remove xs i) ≡ remove (map f xs) i
map_removed f xs i = rw (map-append f (take i xs) (drop (suc i) xs), take-map f i xs, drop-map f (suc i) xs)

module _ {A : Type 0} (num : A → ℕ) (row : List (Stored A)) (n : ℕ) (w : n ≤ length row) (o : ordered (held num n row) ≡ true) (s f : A) where
  canon : Canonical (held num n row)
  canon = (ordered_decides (held num n row)).0 o

  pub length-held : length (held num n row) ≡ n
  length-held = held-length num row n w

  -- the range is held
  module _ (k : is_some (hop_of (held num n row) (num s) (num f)) ≡ true) where
    pub held_place : place_of (held num n row) (num s) (num f) < n
    held_place = rw length-held at (place_set (num s) (num f) 0 (held num n row) canon k).0

    pub held-set : (h : ℕ) → held num n (set row (place_of (held num n row) (num s) (num f)) (record { start = s; finish = f; hop = h })) ≡ insert (rule (num s) (num f) h) (held num n row)
    held-set h =
        let x : Stored A = record { start = s; finish = f; hop = h } in
        let i = place_of (held num n row) (num s) (num f) in
        rw (take-set-lt n row i x held_place, map-set (numbered num) (take n row) i x) (sym (place_set (num s) (num f) h (held num n row) canon k).1)

    pub held-deleted : (out : List (Stored A)) → take (n - 1) out ≡ remove (take n row) (place_of (held num n row) (num s) (num f)) → held num (n - 1) out ≡ delete (num s) (num f) (held num n row)
    held-deleted out e = rw (e, map_removed (numbered num) (take n row) (place_of (held num n row) (num s) (num f))) (sym (place-delete (num s) (num f) (held num n row) canon k))

  -- the range is not held
  module _ (k : is_some (hop_of (held num n row) (num s) (num f)) ≡ false) where
    pub fresh_put : (h : ℕ) (out : List (Stored A)) → take (n + 1) out ≡ inserted (take n row) (place_of (held num n row) (num s) (num f)) (record { start = s; finish = f; hop = h })
        → held num (n + 1) out ≡ insert (rule (num s) (num f) h) (held num n row)
    fresh_put h out e =
        let x : Stored A = record { start = s; finish = f; hop = h } in
        rw (e, map_inserted (numbered num) (take n row) (place_of (held num n row) (num s) (num f)) x) (sym (place-insert (rule (num s) (num f) h) (held num n row) k))

  pub insert-ordered : (h : ℕ) → false ≡ ltb (num f) (num s) → ordered (insert (rule (num s) (num f) h) (held num n row)) ≡ true
  insert-ordered h t = (ordered_decides _).1 (insert-canonical (rule (num s) (num f) h) (held num n row) (false-ltb (num f) (num s) t) canon)

  pub delete-ordered : ordered (delete (num s) (num f) (held num n row)) ≡ true
  delete-ordered = (ordered_decides _).1 (delete-canonical (num s) (num f) (held num n row) canon)

-- the answers, from the tests
module _ (room : ℕ) (R : List Rule) (u v : ℕ) (t : false ≡ ltb v u) where
  pub held_answer : is_some (hop_of R u v) ≡ true → Ok tt ≡ put_answer room R u v
  held_answer k = sym (rw (← t, k))

  pub fresh_answer : is_some (hop_of R u v) ≡ false → length R < room → Ok tt ≡ put_answer room R u v
  fresh_answer k l = let b : ltb (length R) room ≡ true = grind (arith, nat_tests) in sym (rw (← t, k, b))

pub put_done : (room : ℕ) (R S : List Rule) (u v h : ℕ) → Ok tt ≡ put_answer room R u v → S ≡ insert (rule u v h) R → S ≡ put_rules room R u v h
put_done room R S u v h a e = rw (← a) e

pub taken_answer : (R : List Rule) (u v : ℕ) → false ≡ ltb v u → is_some (hop_of R u v) ≡ true → Ok tt ≡ take_answer R u v
taken_answer R u v t k = sym (rw (← t, k))

pub take_done : (R S : List Rule) (u v : ℕ) → Ok tt ≡ take_answer R u v → S ≡ delete u v R → S ≡ take_rules R u v
take_done R S u v a e = rw (← a) e

-- the row after a call, from the place where the search ended
module _ {A : Type 0} (num : A → ℕ) (row : List (Stored A)) (n : ℕ) (w : n ≤ length row) (o : ordered (held num n row) ≡ true) (s f : A) (p room : ℕ) (t : false ≡ ltb (num f) (num s)) where
  module _ (at : IsPlace num (take n row) (num s) (num f) (Ok p)) where
    is_held : is_some (hop_of (held num n row) (num s) (num f)) ≡ true
    is_held = rw (at.2 (record { start = s; finish = f; hop = 0 }))

    pub replaced : (h : ℕ) → let out = set row p (record { start = s; finish = f; hop = h }) in
        (Ok tt ≡ put_answer room (held num n row) (num s) (num f)) × (held num n out ≡ put_rules room (held num n row) (num s) (num f) h) × (ordered (held num n out) ≡ true)
    replaced h =
        let out = set row p (record { start = s; finish = f; hop = h }) in
        let d = held_answer room (held num n row) (num s) (num f) t is_held in
        let i : held num n out ≡ insert (rule (num s) (num f) h) (held num n row) = rw at.0 (held-set num row n w o s f is_held h) in
        (d, put_done room (held num n row) (held num n out) (num s) (num f) h d i, rw i (insert-ordered num row n w o s f h t))

    -- places is what the held places become
    pub taken : (places : List (Stored A)) → length places ≡ length (take n row) → take (length (take n row) - 1) places ≡ remove (take n row) p → let out = places ++ drop n row in
        (Ok tt ≡ take_answer (held num n row) (num s) (num f)) × (held num (n - 1) out ≡ take_rules (held num n row) (num s) (num f)) × (ordered (held num (n - 1) out) ≡ true)
    taken places e q =
        let out = places ++ drop n row in
        let l : length (take n row) ≡ n = length-take-le n row w in
        let z : take (n - 1) out ≡ remove (take n row) p = take-append-le (n - 1) places (drop n row) (omega (arith, e, l)) ∙ rw l at q in
        let h = taken_answer (held num n row) (num s) (num f) t is_held in
        let i = held-deleted num row n w o s f is_held out (z ∙ rw at.0) in
        (h, take_done (held num n row) (held num (n - 1) out) (num s) (num f) h i, rw i (delete-ordered num row n w o s f))

  -- places is what the held places and the first free one become
  pub entered : IsPlace num (take n row) (num s) (num f) (Err p) → n < room → n < length row
      → (h : ℕ) (places : List (Stored A)) → let more = take (n + 1) row in length places ≡ length more → places ≡ inserted (take (length more - 1) more) p (record { start = s; finish = f; hop = h }) → let out = places ++ drop (n + 1) row in
      (held num (n + 1) out ≡ put_rules room (held num n row) (num s) (num f) h) × (ordered (held num (n + 1) out) ≡ true)
  entered at b r h places e q =
      let out = places ++ drop (n + 1) row in
      let m : length (take (n + 1) row) ≡ n + 1 = length-take-le (n + 1) row (omega arith) in
      let v : take n (take (n + 1) row) ≡ take n row = take-take n (n + 1) row (omega arith) in
      let d : length (take (n + 1) row) - 1 ≡ n = omega (arith, m) in
      let z : take (n + 1) out ≡ inserted (take n row) p (record { start = s; finish = f; hop = h }) = take_at places (drop (n + 1) row) (n + 1) (e ∙ m) ∙ q ∙ rw (d, v) in
      let k : is_some (hop_of (held num n row) (num s) (num f)) ≡ false = rw at.2 in
      let i = fresh_put num row n w o s f k h out (z ∙ rw at.0) in
      let l : length (held num n row) < room = rw (length-held num row n w o s f) b in
      (put_done room (held num n row) (held num (n + 1) out) (num s) (num f) h (fresh_answer room (held num n row) (num s) (num f) t k l) i, rw i (insert-ordered num row n w o s f h t))
