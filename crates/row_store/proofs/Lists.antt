-- Lists: the next of what is left, and what a rotation from a place on leaves.
use Rattle.std.proofs.Common.{◌≡◌, ℕ, ◌+◌, ◌-◌, ◌<◌, ◌≤◌, List, [], ◌∷◌, ◌++◌, map, length, refl, get_or, take, drop, set, sym, ap, ◌∙◌, append-nil, arith, length-append, length-drop}
use borrow.Rule.Slice.PartMut.{put_mid, mid_of}
use Rattle.std.specs.List.{insert, remove}
use Rattle.std.proofs.lemmas.List.{drop_more, drop_all, take_all, take_more_set, drop_at, take_at, take-append-le, drop-append-le, length-set, length-take-le}
use Rattle.std.proofs.lemmas.List.Edits.{length-remove}
use Rattle.std.proofs.lemmas.Slice.{put_mid-rotated}

pub next_left : {X Y : Type 0} (f : X → Y) (xs : List X) (i : ℕ) (x : X) → i < length xs → x ≡ get_or xs i x → map f (drop i xs) ≡ f x ∷ map f (drop (i + 1) xs)
next_left f xs i x h e = ap (map f) (drop_more xs i x h) ∙ ap (λ y. f y ∷ map f (drop (i + 1) xs)) (sym e)

-- a rotation to the right brings the last to the front
turned : {X : Type 0} (ys : List X) (x : X) (p k : ℕ) → p ≤ length ys → length ys + 1 ≤ p + k → (out : List X) → let part = mid_of p k (ys ++ x ∷ []) in
    out ≡ drop (length part - 1) part ++ take (length part - 1) part → put_mid p k (ys ++ x ∷ []) out ≡ insert ys p x
turned ys x p k a b out e =
    let w = drop p ys in
    let n : length (drop p (ys ++ x ∷ [])) ≤ k = simp (length-drop, length-append) (omega arith) in
    let d : drop p (ys ++ x ∷ []) ≡ w ++ x ∷ [] = drop-append-le p ys (x ∷ []) a in
    let part : mid_of p k (ys ++ x ∷ []) ≡ w ++ x ∷ [] = take_all k (drop p (ys ++ x ∷ [])) n ∙ d in
    let l : length (w ++ x ∷ []) - 1 ≡ length w = simp length-append (omega arith) in
    let t : out ≡ x ∷ w = e ∙ rw (part, l, drop_at w (x ∷ []) (length w) refl, take_at w (x ∷ []) (length w) refl) in
    rw (t, drop_all k (drop p (ys ++ x ∷ [])) n, append-nil w, take-append-le p ys (x ∷ []) a)

-- x at the last place, and a rotation to the right from p on
pub put_in : {X : Type 0} (places : List X) (x : X) (p k : ℕ) → let n = length places - 1 in let part = mid_of p k (set places n x) in
    p < length places → length (set places n x) ≤ p + k → (out : List X) → out ≡ drop (length part - 1) part ++ take (length part - 1) part → put_mid p k (set places n x) out ≡ insert (take n places) p x
put_in places x p k a b out e =
    let n = length places - 1 in
    let l : length (take n places) ≡ n = length-take-le n places (omega arith) in
    let z : length places ≤ p + k = simp length-set at b in
    let s : set places n x ≡ take n places ++ x ∷ [] = sym (take_all (n + 1) (set places n x) (simp length-set (omega arith))) ∙ take_more_set places n x (omega arith) in
    rw s (turned (take n places) x p k (omega arith) (omega arith) out (rw s at e))

-- a rotation to the left from p on
pub take_out : {X : Type 0} (places : List X) (p k : ℕ) → p < length places → length places ≤ p + k → (out : List X) → out ≡ drop 1 (mid_of p k places) ++ take 1 (mid_of p k places)
    → take (length places - 1) (put_mid p k places out) ≡ remove places p
take_out [] p k a b out e = absurd (omega arith)
take_out (y ∷ ys) p k a b out e =
    let l : length (remove (y ∷ ys) p) ≡ length (y ∷ ys) - 1 = omega (arith, length-remove (y ∷ ys) p a) in
    rw (put_mid-rotated p k (y ∷ ys) out y a b e, take_at (remove (y ∷ ys) p) (get_or (y ∷ ys) p y ∷ []) (length (y ∷ ys) - 1) l)
