-- Decoding and encoding undo each other.
use Rattle.std.proofs.Common.{◌≡◌, ℕ, ◌^◌, ◌<◌, ◌≤◌, Bool, true, false, cond, ◌&&◌, eqb, ltb, leb, List, [], ◌∷◌, ◌++◌, length, take, drop, Some, Ok, Err, sym, refl, ap, ◌∙◌, subst, append_assoc, arith, length-append, take-append-drop, ltb-false, eqb-true, leb-true}
use Rattle.std.specs.Int.Digits.{number_from_digits, AllBelowBase}
use Rattle.std.proofs.lemmas.Int.Digits.{number_lt}
use Rattle.std.proofs.ByRecursion.{All-take, All-drop}
use Rattle.std.proofs.lemmas.List.{take_at, drop_at, length-take-le}
use Rattle.rules.specs.declared.refusal.Refusal.TheVariants.{UnknownRecord, FeedEnds, BadCount}
use Rattle.batch.specs.declared.change.Change.TheVariants.{Add, Remove}
use Rattle.feed.specs.declared.record.Record.{Record}
use Rattle.feed.specs.declared.record.Record.TheVariants.{Change, Lookup, Batch}
use Rattle.byte_form.specs.Bytes.{bytes_of}
use Rattle.byte_form.specs.BytesLemmas.{length_bytes, number_bytes, bytes_number}
use Rattle.feed.specs.Records.{encode, WellFormed}
use Rattle.feed.specs.Decode.{Part, Read, taking, pair, counted, decode_add, decode_remove, decode_lookup, decode_head, decode_kind, some_read}
use Rattle.feed.specs.Laws.{EncodedLaw, DecodedLaw}
use Rattle.feed.proofs.Parts.{enough, good_count}

-- the bytes of a number are taken as that number
gives : {X : Type 0} (n x : ℕ) (rest : List ℕ) (next : ℕ → List ℕ → Part X) → x < 256 ^ n → taking n (bytes_of n x ++ rest) next ≡ next x rest
gives n x rest next h =
    let l = length_bytes n x in
    let k : n ≤ length (bytes_of n x ++ rest) = omega (arith, l, length-append (bytes_of n x) rest) in
    let t : number_from_digits 256 (take n (bytes_of n x ++ rest)) ≡ x = ap (number_from_digits 256) (take_at (bytes_of n x) rest n l) ∙ number_bytes n x h in
    let d : drop n (bytes_of n x ++ rest) ≡ rest = drop_at (bytes_of n x) rest n l in
    sym (enough n (bytes_of n x ++ rest) next k) ∙ (λ i. next (t i) (d i))

pub encoded : EncodedLaw
encoded w (Change (Add s t h)) rest f =
    let S = bytes_of w s in
    let T = bytes_of w t in
    let H = bytes_of 2 h in
    ap (λ bs. some_read (decode_add w bs)) (append_assoc S (T ++ H) rest ∙ ap (λ bs. S ++ bs) (append_assoc T H rest))
    ∙ ap some_read
    (gives w s (T ++ (H ++ rest)) (λ s b. taking w b (λ t d. taking 2 d (λ h. pair (Change (Add s t h))))) f.0
    ∙ gives w t (H ++ rest) (λ t d. taking 2 d (λ h. pair (Change (Add s t h)))) f.1
    ∙ gives 2 h rest (λ h. pair (Change (Add s t h))) f.2)
encoded w (Change (Remove s t)) rest f =
    let S = bytes_of w s in
    let T = bytes_of w t in
    ap (λ bs. some_read (decode_remove w bs)) (append_assoc S T rest)
    ∙ ap some_read
    (gives w s (T ++ rest) (λ s b. taking w b (λ t. pair (Change (Remove s t)))) f.0
    ∙ gives w t rest (λ t. pair (Change (Remove s t))) f.1)
encoded w (Lookup a) rest f = ap some_read (gives w a rest (λ a. pair (Lookup a)) f)
encoded w (Batch n) rest f =
    ap some_read (gives 1 n rest counted (omega (arith, f.1)) ∙ sym (good_count n rest f.0 f.1))

-- a number that was taken, and its bytes
record Back {X : Type 0} (n : ℕ) (bs : List ℕ) (next : ℕ → List ℕ → Part X) (v : X × List ℕ) : Type 0 where
  x : ℕ
  more : List ℕ
  small : x < 256 ^ n
  bytes : bs ≡ bytes_of n x ++ more
  under : AllBelowBase 256 more
  goes : next x more ≡ Ok v

took_back : {X : Type 0} (n : ℕ) (bs : List ℕ) (next : ℕ → List ℕ → Part X) (v : X × List ℕ) → AllBelowBase 256 bs → taking n bs next ≡ Ok v → Back n bs next v
took_back n bs next v u e = go (ltb (length bs) n) refl e
  where
    go : (b : Bool) → ltb (length bs) n ≡ b → cond b (Err FeedEnds) (next (number_from_digits 256 (take n bs)) (drop n bs)) ≡ Ok v → Back n bs next v
    go true t f = cc
    go false t f =
        let l : length (take n bs) ≡ n = length-take-le n bs (ltb-false (length bs) n t) in
        let q = All-take (λ d. d < 256) n bs u in
        let b : take n bs ≡ bytes_of n (number_from_digits 256 (take n bs)) = sym (bytes_number (take n bs) q) ∙ ap (λ k. bytes_of k (number_from_digits 256 (take n bs))) l in
        record {
          x = number_from_digits 256 (take n bs);
          more = drop n bs;
          small = subst (λ k. number_from_digits 256 (take n bs) < 256 ^ k) l (number_lt 256 (take n bs) q);
          bytes = sym (take-append-drop n bs) ∙ ap (λ xs. xs ++ drop n bs) b;
          under = All-drop (λ d. d < 256) n bs u;
          goes = f;
        }

-- what is read of a body behind a kind byte
abbrev Own : ℕ → ℕ → List ℕ → (Record ℕ × List ℕ) → Type 0
Own w kind body v = WellFormed w v.0 × (kind ∷ body ≡ encode w v.0 ++ v.1)

same : (w kind : ℕ) (body : List ℕ) (u v : Record ℕ × List ℕ) → ◌≡◌ {A = Part (Record ℕ)} (Ok u) (Ok v) → Own w kind body u → Own w kind body v
same w kind body u v e h = let p : u ≡ v = cc in subst (Own w kind body) p h

add_back : (w : ℕ) (body : List ℕ) (v : Record ℕ × List ℕ) → AllBelowBase 256 body → decode_add w body ≡ Ok v → Own w 0x01 body v
add_back w body v u e =
    let s = took_back w body (λ s b. taking w b (λ t d. taking 2 d (λ h. pair (Change (Add s t h))))) v u e in
    let t = took_back w s.more (λ t d. taking 2 d (λ h. pair (Change (Add s.x t h)))) v s.under s.goes in
    let h = took_back 2 t.more (λ h. pair (Change (Add s.x t.x h))) v t.under t.goes in
    let S = bytes_of w s.x in
    let T = bytes_of w t.x in
    let H = bytes_of 2 h.x in
    let b : body ≡ (S ++ (T ++ H)) ++ h.more =
    s.bytes ∙ ap (λ bs. S ++ bs) (t.bytes ∙ ap (λ bs. T ++ bs) h.bytes ∙ sym (append_assoc T H h.more)) ∙ sym (append_assoc S (T ++ H) h.more)
    in same w 0x01 body _ v h.goes ((s.small, t.small, h.small), ap (λ bs. 0x01 ∷ bs) b)

remove_back : (w : ℕ) (body : List ℕ) (v : Record ℕ × List ℕ) → AllBelowBase 256 body → decode_remove w body ≡ Ok v → Own w 0x02 body v
remove_back w body v u e =
    let s = took_back w body (λ s b. taking w b (λ t. pair (Change (Remove s t)))) v u e in
    let t = took_back w s.more (λ t. pair (Change (Remove s.x t))) v s.under s.goes in
    let S = bytes_of w s.x in
    let T = bytes_of w t.x in
    let b : body ≡ (S ++ T) ++ t.more = s.bytes ∙ ap (λ bs. S ++ bs) t.bytes ∙ sym (append_assoc S T t.more) in
    same w 0x02 body _ v t.goes ((s.small, t.small), ap (λ bs. 0x02 ∷ bs) b)

lookup_back : (w : ℕ) (body : List ℕ) (v : Record ℕ × List ℕ) → AllBelowBase 256 body → decode_lookup w body ≡ Ok v → Own w 0x03 body v
lookup_back w body v u e =
    let a = took_back w body (λ a. pair (Lookup a)) v u e in
    same w 0x03 body _ v a.goes (a.small, ap (λ bs. 0x03 ∷ bs) a.bytes)

head_back : (w : ℕ) (body : List ℕ) (v : Record ℕ × List ℕ) → AllBelowBase 256 body → decode_head body ≡ Ok v → Own w 0x04 body v
head_back w body v u e = let n = took_back 1 body counted v u e in go n (leb 1 n.x) (leb n.x 64) refl refl n.goes
  where
    go : (n : Back 1 body counted v) (a b : Bool) → leb 1 n.x ≡ a → leb n.x 64 ≡ b → ◌≡◌ {A = Part (Record ℕ)} (cond (a && b) (pair (Batch n.x)) (λ rest. Err BadCount) n.more) (Ok v) → Own w 0x04 body v
    go n true true p q f =
        same w 0x04 body _ v f ((leb-true 1 n.x p, leb-true n.x 64 q), ap (λ bs. 0x04 ∷ bs) n.bytes)
    go n true false p q f = cc
    go n false b p q f = cc

body_back : (w kind : ℕ) (body : List ℕ) (v : Record ℕ × List ℕ) → AllBelowBase 256 body → decode_kind w kind body ≡ Ok v → Own w kind body v
body_back w kind body v u e = one (eqb kind 0x01) refl e
  where
    at : (k : ℕ) → eqb kind k ≡ true → Own w k body v → Own w kind body v
    at k p h = subst (λ j. Own w j body v) (sym (eqb-true kind k p)) h

    four : (b : Bool) → eqb kind 0x04 ≡ b → cond b (decode_head body) (Err UnknownRecord) ≡ Ok v → Own w kind body v
    four true p f = at 0x04 p (head_back w body v u f)
    four false p f = cc

    three : (b : Bool) → eqb kind 0x03 ≡ b → cond b (decode_lookup w body) (cond (eqb kind 0x04) (decode_head body) (Err UnknownRecord)) ≡ Ok v → Own w kind body v
    three true p f = at 0x03 p (lookup_back w body v u f)
    three false p f = four (eqb kind 0x04) refl f

    two : (b : Bool) → eqb kind 0x02 ≡ b → cond b (decode_remove w body) (cond (eqb kind 0x03) (decode_lookup w body) (cond (eqb kind 0x04) (decode_head body) (Err UnknownRecord))) ≡ Ok v → Own w kind body v
    two true p f = at 0x02 p (remove_back w body v u f)
    two false p f = three (eqb kind 0x03) refl f

    one : (b : Bool) → eqb kind 0x01 ≡ b → cond b (decode_add w body) (cond (eqb kind 0x02) (decode_remove w body) (cond (eqb kind 0x03) (decode_lookup w body) (cond (eqb kind 0x04) (decode_head body) (Err UnknownRecord)))) ≡ Ok v → Own w kind body v
    one true p f = at 0x01 p (add_back w body v u f)
    one false p f = two (eqb kind 0x02) refl f

pub decoded : DecodedLaw
decoded w [] r rest u e = cc
decoded w (kind ∷ body) r rest u e = go (decode_kind w kind body) refl e
  where
    go : (p : Part (Record ℕ)) → decode_kind w kind body ≡ p → ◌≡◌ {A = Read (Record ℕ × List ℕ)} (some_read p) (Ok (Some (r, rest))) → Own w kind body (r, rest)
    go (Ok v) d f = let q : v ≡ (r, rest) = cc in body_back w kind body (r, rest) u.1 (d ∙ ap Ok q)
    go (Err x) d f = cc
