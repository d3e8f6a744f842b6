-- What a read leaves is the end of the bytes that it began with.
use Rattle.std.proofs.Common.{◌≡◌, ℕ, suc, ◌+◌, ◌-◌, ◌<◌, ◌≤◌, Bool, true, false, cond, ◌&&◌, eqb, ltb, leb, List, [], ◌∷◌, length, take, drop, Some, Ok, Err, Option, sym, refl, ap, ◌∙◌, arith, length-drop, Bor, ltb-false}
use Rattle.std.specs.Int.Digits.{number_from_digits}
use Rattle.std.proofs.lemmas.List.{drop-drop}
use Rattle.rules.specs.declared.refusal.Refusal.TheVariants.{UnknownRecord, FeedEnds, BadCount}
use Rattle.feed.specs.declared.record.Record.{Record}
use Rattle.batch.specs.declared.change.Change.TheVariants.{Add, Remove}
use Rattle.feed.specs.declared.record.Record.TheVariants.{Change, Lookup, Batch}
use Rattle.feed.specs.Records.{record_told}
use Rattle.feed.specs.Decode.{Part, Read, taking, pair, counted, decode_kind, some_read, decode, record_read}

abbrev pub Tail : List ℕ → List ℕ → Type 0
Tail bs rest = (k : ℕ) × ((k ≤ length bs) × (rest ≡ drop k bs))

abbrev pub Leaves : {X : Type 0} → List ℕ → Part X → Type 0
Leaves bs (Ok p) = Tail bs p.1
Leaves bs (Err e) = Unit {0}

further : {X : Type 0} (n : ℕ) (bs : List ℕ) (p : Part X) → n ≤ length bs → Leaves (drop n bs) p → Leaves bs p
further n bs (Ok p) h t = (n + t.0, (omega (arith, t.1.0, length-drop n bs), t.1.1 ∙ drop-drop t.0 n bs))
further n bs (Err e) h t = tt

taking_leaves : {X : Type 0} (n : ℕ) (bs : List ℕ) (next : ℕ → List ℕ → Part X) → ((x : ℕ) (rest : List ℕ) → Leaves rest (next x rest)) → Leaves bs (taking n bs next)
taking_leaves n bs next f = go (ltb (length bs) n) refl
  where
    go : (b : Bool) → ltb (length bs) n ≡ b → Leaves bs (cond b (Err FeedEnds) (next (number_from_digits 256 (take n bs)) (drop n bs)))
    go true e = tt
    go false e = further n bs _ (ltb-false (length bs) n e) (f (number_from_digits 256 (take n bs)) (drop n bs))

all : (rest : List ℕ) → Tail rest rest
all rest = (0, (omega arith, refl))

pick : {X : Type 0} (b : Bool) (bs : List ℕ) (p q : Part X) → Leaves bs p → Leaves bs q → Leaves bs (cond b p q)
pick true bs p q h k = h
pick false bs p q h k = k

counted_leaves : (n : ℕ) (rest : List ℕ) → Leaves rest (counted n rest)
counted_leaves n rest = go (leb 1 n && leb n 64)
  where
    go : (b : Bool) → Leaves {X = Record ℕ} rest (cond b (pair (Batch n)) (λ r. Err BadCount) rest)
    go true = all rest
    go false = tt

body_leaves : (w kind : ℕ) (body : List ℕ) → Leaves body (decode_kind w kind body)
body_leaves w kind body =
    pick (eqb kind 0x01) body _ _ (taking_leaves w body _ (λ s b. taking_leaves w b _ (λ t d. taking_leaves 2 d (λ h. pair (Change (Add s t h))) (λ h. all))))
    (pick (eqb kind 0x02) body _ _ (taking_leaves w body _ (λ s b. taking_leaves w b (λ t. pair (Change (Remove s t))) (λ t. all)))
    (pick (eqb kind 0x03) body _ _ (taking_leaves w body (λ a. pair (Lookup a)) (λ a. all))
    (pick (eqb kind 0x04) body _ (Err UnknownRecord) (taking_leaves 1 body _ counted_leaves) tt)))

pub decode_leaves : (w : ℕ) (bs : List ℕ) (r : Record ℕ) (rest : List ℕ) → ◌≡◌ {A = Read (Record ℕ × List ℕ)} (Ok (Some (r, rest))) (decode w bs) → Tail bs rest
decode_leaves w [] r rest e = cc
decode_leaves w (kind ∷ body) r rest e = go (decode_kind w kind body) (body_leaves w kind body) e
  where
    go : (p : Part (Record ℕ)) → Leaves body p → ◌≡◌ {A = Read (Record ℕ × List ℕ)} (Ok (Some (r, rest))) (some_read p) → Tail (kind ∷ body) rest
    go (Ok p) t f = let q : ◌≡◌ {A = Record ℕ × List ℕ} (r, rest) p = cc in (suc t.0, (omega (arith, t.1.0), ap (λ (x : Record ℕ × List ℕ). x.1) q ∙ t.1.1))
    go (Err e) t f = cc

pub decode_shorter : (w : ℕ) (bs : List ℕ) (r : Record ℕ) (rest : List ℕ) → ◌≡◌ {A = Read (Record ℕ × List ℕ)} (Ok (Some (r, rest))) (decode w bs) → length rest < length bs
decode_shorter w [] r rest e = cc
decode_shorter w (kind ∷ body) r rest e = go (decode_kind w kind body) (body_leaves w kind body) e
  where
    go : (p : Part (Record ℕ)) → Leaves body p → ◌≡◌ {A = Read (Record ℕ × List ℕ)} (Ok (Some (r, rest))) (some_read p) → length rest < suc (length body)
    go (Ok p) t f =
        let q : ◌≡◌ {A = Record ℕ × List ℕ} (r, rest) p = cc in
        omega (arith, ap (λ (x : Record ℕ × List ℕ). length x.1) q, ap length t.1.1, length-drop t.0 body)
    go (Err e) t f = cc

-- of a reader at `place`, whose next record leaves `rest`
pub record Moved (feed : List ℕ) (place : ℕ) (rest : List ℕ) : Type 0 where
  pub fits : length rest ≤ length feed
  pub after : drop (length feed - length rest) feed ≡ rest
  pub by : length feed - length rest ≡ place + (length (drop place feed) - length rest)

pub moved : (feed : List ℕ) (place : ℕ) (rest : List ℕ) → place ≤ length feed → Tail (drop place feed) rest → Moved feed place rest
moved feed place rest h t =
    let k = t.0 in
    let d = length-drop place feed in
    let l : length rest ≡ length feed - (place + k) = ap length (t.1.1 ∙ drop-drop k place feed) ∙ length-drop (place + k) feed in
    let m : k ≤ length (drop place feed) = t.1.0 in
    let e : length feed - length rest ≡ place + k = omega arith in
    record {
      fits = omega arith;
      after = ap (λ n. drop n feed) e ∙ sym (t.1.1 ∙ drop-drop k place feed);
      by = omega arith;
    }

-- what code found, by numbers
pub found : {A : Type 0} (num : A → ℕ) (w : ℕ) (o : Option (Record A × Bor (List ℕ))) (r : Record A) (rest : Bor (List ℕ)) (xs ys : List ℕ) → o ≡ Some (r, rest) → record_read num (Ok o) ≡ decode w xs → xs ≡ ys → ◌≡◌ {A = Read (Record ℕ × List ℕ)} (Ok (Some (record_told num r, rest.now))) (decode w ys)
found num w o r rest xs ys e f v = ap (λ p. record_read num (Ok p)) (sym e) ∙ f ∙ ap (decode w) v

pub moved_by : (w : ℕ) (feed : List ℕ) (place : ℕ) (r : Record ℕ) (rest : List ℕ) → place ≤ length feed → ◌≡◌ {A = Read (Record ℕ × List ℕ)} (Ok (Some (r, rest))) (decode w (drop place feed)) → Moved feed place rest
moved_by w feed place r rest h e = moved feed place rest h (decode_leaves w (drop place feed) r rest e)
