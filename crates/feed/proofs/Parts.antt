-- Taking a number of n bytes from the front of a list.
use Rattle.std.proofs.Common.{◌≡◌, ℕ, ◌≤◌, true, false, ltb, leb, List, length, take, drop, le-ltb, le-leb}
use Rattle.std.specs.Int.Digits.{number_from_digits}
use Rattle.feed.specs.declared.record.Record.TheVariants.{Batch}
use Rattle.feed.specs.Decode.{Part, taking, pair, counted}

-- where there are enough bytes, a number is taken
pub enough : {X : Type 0} (n : ℕ) (bs : List ℕ) (next : ℕ → List ℕ → Part X) → n ≤ length bs → next (number_from_digits 256 (take n bs)) (drop n bs) ≡ taking n bs next
enough n bs next h = let b : ltb (length bs) n ≡ false = le-ltb (length bs) n h in rw b

pub good_count : (n : ℕ) (rest : List ℕ) → 1 ≤ n → n ≤ 64 → pair (Batch n) rest ≡ counted n rest
good_count n rest h k = let a : leb 1 n ≡ true = le-leb 1 n h in let b : leb n 64 ≡ true = le-leb n 64 k in rw (a, b)
