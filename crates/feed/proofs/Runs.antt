-- A run takes its bytes apart, and goes on record by record.
use Rattle.std.proofs.Common.{◌≡◌, ℕ, zero, suc, ◌<◌, ◌≤◌, List, [], ◌∷◌, ◌++◌, length, Some, None, Ok, Err, Result, sym, refl, ap, ◌∙◌, subst, append_assoc, arith, get_or, Fits, w8}
use Rattle.std.specs.List.{flat_map}
use Rattle.std.specs.Int.Digits.{AllBelowBase}
use Rattle.std.proofs.ByRecursion.{All-drop, All-from_get_or}
use Rattle.std.proofs.lemmas.List.{nil_from_length}
use Rattle.rules.specs.declared.refusal.Refusal.{Refusal}
use Rattle.feed.specs.declared.record.Record.{Record}
use Rattle.feed.specs.Records.{encode}
use Rattle.feed.specs.Decode.{Part, Read, decode_kind, some_read, decode}
use Rattle.feed.specs.Reads.{left, placed}
use Rattle.feed.specs.Runs.{Run, run, run_for, run_on, stopped, after, Apart}
use Rattle.feed.specs.Laws.{ApartLaw}
use Rattle.feed.proofs.Tails.{decode_leaves, decode_shorter}
use Rattle.feed.proofs.Encodings.{decoded}

-- the end is where there are no bytes
end_empty : (w : ℕ) (bs : List ℕ) → decode w bs ≡ Ok None → [] ≡ bs
end_empty w [] e = refl
end_empty w (kind ∷ body) e = go (decode_kind w kind body) e
  where
    go : (p : Part (Record ℕ)) → ◌≡◌ {A = Read (Record ℕ × List ℕ)} (some_read p) (Ok None) → [] ≡ (kind ∷ body)
    go (Ok v) f = cc
    go (Err x) f = cc

-- any number of turns that is enough gives the same run
pub enough_turns : (w n m : ℕ) (bs : List ℕ) → length bs ≤ n → length bs ≤ m → run_for w n bs ≡ run_for w m bs
unfolding run_for
enough_turns w zero zero bs h k = refl
enough_turns w zero (suc m) bs h k = let e = nil_from_length bs (omega arith) in subst (λ xs. stopped xs (Ok tt) ≡ run_for w (suc m) xs) (sym e) refl
enough_turns w (suc n) zero bs h k = let e = nil_from_length bs (omega arith) in subst (λ xs. run_for w (suc n) xs ≡ stopped xs (Ok tt)) (sym e) refl
enough_turns w (suc n) (suc m) bs h k = go (decode w bs) refl (enough_turns w n m)
  where
    go : (d : Read (Record ℕ × List ℕ)) → decode w bs ≡ d → ((rest : List ℕ) → length rest ≤ n → length rest ≤ m → run_for w n rest ≡ run_for w m rest) → run_on bs d (run_for w n) ≡ run_on bs d (run_for w m)
    go (Ok None) e ih = refl
    go (Ok (Some (r, rest))) e ih = let l = decode_shorter w bs r rest (sym e) in ap (after r) (ih rest (omega arith) (omega arith))
    go (Err x) e ih = refl

-- the run where a record is next
pub run_next : (w : ℕ) (bs : List ℕ) (r : Record ℕ) (rest : List ℕ) → decode w bs ≡ Ok (Some (r, rest)) → run w bs ≡ after r (run w rest)
unfolding run_for
run_next w [] r rest e = cc
run_next w (kind ∷ body) r rest e =
    let l = decode_shorter w (kind ∷ body) r rest (sym e) in
    ap (λ d. run_on (kind ∷ body) d (run_for w (length body))) e ∙ ap (after r) (enough_turns w (length body) (length rest) rest (omega arith) (omega arith))

-- and where none is
pub run_ends : (w : ℕ) (bs : List ℕ) → decode w bs ≡ Ok None → run w bs ≡ stopped bs (Ok tt)
unfolding run_for
run_ends w bs e = subst (λ xs. run w xs ≡ stopped xs (Ok tt)) (end_empty w bs e) refl

pub run-refused : (w : ℕ) (bs : List ℕ) (x : Refusal) → decode w bs ≡ Err x → run w bs ≡ stopped bs (Err x)
unfolding run_for
run-refused w [] x e = cc
run-refused w (kind ∷ body) x e = ap (λ d. run_on (kind ∷ body) d (run_for w (length body))) e

apart_for : (w n : ℕ) (bs : List ℕ) → length bs ≤ n → AllBelowBase 256 bs → Apart w bs (run_for w n bs)
unfolding run_for
apart_for w zero bs h u = record { bytes = refl; formed = tt; whole = λ t. sym (nil_from_length bs (omega arith)) }
apart_for w (suc n) bs h u = go (decode w bs) refl (apart_for w n)
  where
    go : (d : Read (Record ℕ × List ℕ)) → decode w bs ≡ d → ((rest : List ℕ) → length rest ≤ n → AllBelowBase 256 rest → Apart w rest (run_for w n rest)) → Apart w bs (run_on bs d (run_for w n))
    go (Ok None) e ih = record { bytes = refl; formed = tt; whole = λ t. end_empty w bs e }
    go (Ok (Some (r, rest))) e ih =
        let d = decoded w bs r rest u e in
        let t = decode_leaves w bs r rest (sym e) in
        let l = decode_shorter w bs r rest (sym e) in
        let v : AllBelowBase 256 rest = subst (AllBelowBase 256) (sym t.1.1) (All-drop (λ b. b < 256) t.0 bs u) in
        let a = ih rest (omega arith) v in
        let rs = (run_for w n rest).records in
        record {
          bytes = append_assoc (encode w r) (flat_map (encode w) rs) (run_for w n rest).left ∙ ap (λ xs. encode w r ++ xs) a.bytes ∙ sym d.1;
          formed = (d.0, a.formed);
          whole = λ k. ap (λ xs. encode w r ++ xs) (a.whole k) ∙ sym d.1;
        }
    go (Err x) e ih = record { bytes = refl; formed = tt; whole = λ t. cc }

pub apart : ApartLaw
apart w feed u = apart_for w (length feed) feed (omega arith) u

-- a feed in memory is bytes
pub apart_bytes : (w : ℕ) (feed : List ℕ) → ((i : ℕ) → Fits w8 (get_or feed i 0)) → Apart w feed (run w feed)
apart_bytes w feed u = apart w feed (All-from_get_or (λ b. b < 256) feed 0 (λ i h. omega (arith, u i)))

-- of a reader at `bs` that tells a record: what it leaves gives the rest of the run
pub record On (w : ℕ) (bs : List ℕ) : Type 0 where
  pub shorter : length (left bs (decode w bs)) < length bs
  pub end : (run w (left bs (decode w bs))).end ≡ (run w bs).end
  pub rest : (run w (left bs (decode w bs))).left ≡ (run w bs).left

pub told-some : (w place : ℕ) (bs : List ℕ) (p : ℕ × Record ℕ) → ◌≡◌ {A = Read (ℕ × Record ℕ)} (Ok (Some p)) (placed place (decode w bs)) → On w bs
told-some w place bs p f = go (decode w bs) refl f
  where
    go : (d : Read (Record ℕ × List ℕ)) → decode w bs ≡ d → ◌≡◌ {A = Read (ℕ × Record ℕ)} (Ok (Some p)) (placed place d) → On w bs
    go (Ok None) e f = cc
    go (Ok (Some (r, rest))) e f =
        let l : left bs (decode w bs) ≡ rest = ap (left bs) e in
        let t : run w bs ≡ after r (run w rest) = run_next w bs r rest e in
        record {
          shorter = subst (λ xs. length xs < length bs) (sym l) (decode_shorter w bs r rest (sym e));
          end = ap (λ xs. (run w xs).end) l ∙ ap (λ (t : Run). t.end) (sym t);
          rest = ap (λ xs. (run w xs).left) l ∙ ap (λ (t : Run). t.left) (sym t);
        }
    go (Err x) e f = cc

-- of one that tells none, or refuses: that ends the run
pub record Off (w : ℕ) (bs : List ℕ) (r : Result (Unit {0}) Refusal) : Type 0 where
  pub end : r ≡ (run w bs).end
  pub rest : left bs (decode w bs) ≡ (run w bs).left

pub told_none : (w place : ℕ) (bs : List ℕ) → ◌≡◌ {A = Read (ℕ × Record ℕ)} (Ok None) (placed place (decode w bs)) → Off w bs (Ok tt)
told_none w place bs f = go (decode w bs) refl f
  where
    go : (d : Read (Record ℕ × List ℕ)) → decode w bs ≡ d → ◌≡◌ {A = Read (ℕ × Record ℕ)} (Ok None) (placed place d) → Off w bs (Ok tt)
    go (Ok None) e f =
        let t = run_ends w bs e in
        record { end = ap (λ (t : Run). t.end) (sym t); rest = ap (left bs) e ∙ ap (λ (t : Run). t.left) (sym t) }
    go (Ok (Some (r, rest))) e f = cc
    go (Err x) e f = cc

pub told_refusal : (w place : ℕ) (bs : List ℕ) (x : Refusal) → ◌≡◌ {A = Read (ℕ × Record ℕ)} (Err x) (placed place (decode w bs)) → Off w bs (Err x)
told_refusal w place bs x f = go (decode w bs) refl f
  where
    go : (d : Read (Record ℕ × List ℕ)) → decode w bs ≡ d → ◌≡◌ {A = Read (ℕ × Record ℕ)} (Err x) (placed place d) → Off w bs (Err x)
    go (Ok None) e f = cc
    go (Ok (Some (r, rest))) e f = cc
    go (Err y) e f =
        let q : x ≡ y = cc in
        let t = run-refused w bs y e in
        record { end = ap Err q ∙ ap (λ (t : Run). t.end) (sym t); rest = ap (left bs) e ∙ ap (λ (t : Run). t.left) (sym t) }
