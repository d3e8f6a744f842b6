-- A run of a reader to the end of its bytes.
use Rattle.std.specs.Prelude.{◌≡◌, ℕ, zero, suc, ◌-◌, true, List, [], ◌∷◌, ◌++◌, length, is_ok, Some, None, Ok, Err, Option, Result}
use Rattle.std.specs.List.{flat_map, AllByRecursion}
use Rattle.rules.specs.declared.refusal.Refusal.{Refusal}
use Rattle.feed.specs.declared.record.Record.{Record}
use Rattle.feed.specs.Records.{encode, WellFormed}
use Rattle.feed.specs.Decode.{Read, decode}

-- the records read in order, the bytes left, and how the run ended
pub record Run : Type 0 where
  pub records : List (Record ℕ)
  pub left : List ℕ
  pub end : Result (Unit {0}) Refusal

abbrev pub stopped : List ℕ → Result (Unit {0}) Refusal → Run
stopped bs end = record { records = []; left = bs; end = end }

abbrev pub after : Record ℕ → Run → Run
after r t = record { records = r ∷ t.records; left = t.left; end = t.end }

-- what was read, and the run over the bytes that it leaves
abbrev pub run_on : List ℕ → Read (Record ℕ × List ℕ) → (List ℕ → Run) → Run
run_on bs (Ok None) more = stopped bs (Ok tt)
run_on bs (Ok (Some p)) more = after p.0 (more p.1)
run_on bs (Err e) more = stopped bs (Err e)

unfoldable pub run_for : ℕ → ℕ → List ℕ → Run
run_for w zero bs = stopped bs (Ok tt)
run_for w (suc n) bs = run_on bs (decode w bs) (run_for w n)

-- each record takes a byte or more, so there are at most as many records as bytes
abbrev pub run : ℕ → List ℕ → Run
run w bs = run_for w (length bs) bs

-- the place of the faulty record that ended a run over so many bytes, and its refusal
abbrev pub fault_at : ℕ → Result (Unit {0}) Refusal → Option (ℕ × Refusal)
fault_at place (Ok u) = None
fault_at place (Err e) = Some (place, e)

abbrev pub fault : ℕ → Run → Option (ℕ × Refusal)
fault size t = fault_at (size - length t.left) t.end

-- the feed is the bytes of the records read, in order, and then the bytes left: nothing is lost or read twice
pub record Apart (w : ℕ) (feed : List ℕ) (t : Run) : Type 0 where
  pub bytes : flat_map (encode w) t.records ++ t.left ≡ feed
  pub formed : AllByRecursion (WellFormed w) t.records
  pub whole : is_ok t.end ≡ true → flat_map (encode w) t.records ≡ feed
