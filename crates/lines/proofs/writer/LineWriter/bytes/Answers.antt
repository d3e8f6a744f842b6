use Rattle.std.proofs.Common.{◌≡◌, ℕ, ◌+◌, ◌-◌, ◌≤◌, List, ◌++◌, length, take, drop, refl, sym, ap, ◌∙◌, subst, append_assoc, arith, length-append}
use borrow.Rule.Slice.PartMut.{put_mid}
use Rattle.std.proofs.lemmas.List.{take_at, drop_at, length-take-le}
use Rattle.lines.proofs.writer.LineWriter.bytes.Goals as goal

-- ys in the place of as many items from `at` on
record Put (at : ℕ) (xs ys zs : List ℕ) : Type 0 where
  front : take (at + length ys) zs ≡ take at xs ++ ys
  back : drop (at + length ys) zs ≡ drop (length ys) (drop at xs)

put : (at : ℕ) (xs bs ys : List ℕ) → at ≤ length xs → ys ≡ bs → Put at xs bs (put_mid at (at + length bs - at) xs ys)
put at xs bs ys h e =
    let n = at + length bs - at in
    let k : n ≡ length bs = omega arith in
    let p = take at xs ++ bs in
    let l : length p ≡ at + length bs = omega (arith, length-append (take at xs) bs, length-take-le at xs h) in
    let f : p ++ drop n (drop at xs) ≡ put_mid at n xs ys = append_assoc (take at xs) bs (drop n (drop at xs)) ∙ ap (put_mid at n xs) (sym e) in
    subst (Put at xs bs) f (record {
      front = take_at p (drop n (drop at xs)) (at + length bs) l;
      back = drop_at p (drop n (drop at xs)) (at + length bs) l ∙ ap (λ m. drop m (drop at xs)) k;
    })

pub returns : goal.returns
returns c =
    let self = c.args.self.now in
    let p = put self.place self.buffer.now c.args.bytes.now c.copy_from_slice.new.self self.within c.copy_from_slice.ensures.after in
    record { after = p.front; behind = p.back; same = refl }
