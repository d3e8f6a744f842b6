-- What the first bytes of a list mean: a record and the bytes behind it, the end, or a refusal.
use Rattle.std.specs.Prelude.{ℕ, cond, ◌&&◌, List, [], ◌∷◌, length, take, drop, Some, None, Ok, Err, Option, Result, ◌==◌, nat_le, nat_lt}
use Rattle.std.specs.Borrow.{Bor}
use Rattle.std.specs.Int.Digits.{number_from_digits}
use Rattle.rules.specs.declared.refusal.Refusal.{Refusal}
use Rattle.rules.specs.declared.refusal.Refusal.TheVariants.{UnknownRecord, FeedEnds, BadCount}
use Rattle.batch.specs.declared.change.Change.TheVariants.{Add, Remove}
use Rattle.feed.specs.declared.record.Record.{Record}
use Rattle.feed.specs.declared.record.Record.TheVariants.{Change, Lookup, Batch}
use Rattle.feed.specs.Records.{record_told}

-- something read, and the bytes behind it
abbrev pub Part : Type 0 → Type 0
Part X = Result (X × List ℕ) Refusal

-- goes on with the number in the first n bytes and with the bytes behind them, unless the feed ends before
abbrev pub taking : {X : Type 0} → ℕ → List ℕ → (ℕ → List ℕ → Part X) → Part X
taking n bs next = cond (nat_lt (length bs) n) (Err FeedEnds) (next (number_from_digits 256 (take n bs)) (drop n bs))

abbrev pub pair : {X : Type 0} → X → List ℕ → Part X
pair x rest = Ok (x, rest)

-- the bodies of the records, whose addresses take w bytes
abbrev pub decode_add : ℕ → List ℕ → Part (Record ℕ)
decode_add w body = taking w body (λ start b. taking w b (λ finish c. taking 2 c (λ hop. pair (Change (Add start finish hop)))))

abbrev pub decode_remove : ℕ → List ℕ → Part (Record ℕ)
decode_remove w body = taking w body (λ start b. taking w b (λ finish. pair (Change (Remove start finish))))

abbrev pub decode_lookup : ℕ → List ℕ → Part (Record ℕ)
decode_lookup w body = taking w body (λ a. pair (Lookup a))

abbrev pub counted : ℕ → List ℕ → Part (Record ℕ)
counted n = cond (nat_le 1 n && nat_le n 64) (pair (Batch n)) (λ rest. Err BadCount)

abbrev pub decode_head : List ℕ → Part (Record ℕ)
decode_head body = taking 1 body counted

-- the first byte tells the kind, and the kind fixes the body
abbrev pub decode_kind : ℕ → ℕ → List ℕ → Part (Record ℕ)
decode_kind w kind body =
    cond (kind == 0x01) (decode_add w body)
    (cond (kind == 0x02) (decode_remove w body)
    (cond (kind == 0x03) (decode_lookup w body)
    (cond (kind == 0x04) (decode_head body) (Err UnknownRecord))))

-- the end, or something read
abbrev pub Read : Type 0 → Type 0
Read X = Result (Option X) Refusal

abbrev pub some_read : {X : Type 0} → Result X Refusal → Read X
some_read (Ok x) = Ok (Some x)
some_read (Err e) = Err e

abbrev pub decode : ℕ → List ℕ → Read (Record ℕ × List ℕ)
decode w [] = Ok None
decode w (kind ∷ body) = some_read (decode_kind w kind body)

-- what code reads, by numbers
abbrev pub address_part : {A : Type 0} → (A → ℕ) → Result (A × Bor (List ℕ)) Refusal → Part ℕ
address_part num (Ok p) = Ok (num p.0, p.1.now)
address_part num (Err e) = Err e

abbrev pub record_part : {A : Type 0} → (A → ℕ) → Result (Record A × Bor (List ℕ)) Refusal → Part (Record ℕ)
record_part num (Ok p) = Ok (record_told num p.0, p.1.now)
record_part num (Err e) = Err e

abbrev pub record_read : {A : Type 0} → (A → ℕ) → Read (Record A × Bor (List ℕ)) → Read (Record ℕ × List ℕ)
record_read num (Ok None) = Ok None
record_read num (Ok (Some p)) = Ok (Some (record_told num p.0, p.1.now))
record_read num (Err e) = Err e
