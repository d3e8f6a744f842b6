-- A put of the default range into an empty store.
use Rattle.std.proofs.Common.{◌≡◌, ℕ, false, ltb, List, [], ◌∷◌, length, arith}
use Rattle.std.proofs.lemmas.Bool.Decides.{nat_tests}
use Rattle.rules.specs.Rules.{Rule, insert, hop_of}
use Rattle.rules.specs.Answers.{put_answer, put_rules}
use Rattle.table.specs.Answers.{make_answer, make_rules}

pub made_answer : (last capacity : ℕ) (R : List Rule) → length R ≡ 0 → put_answer capacity R 0 last ≡ make_answer capacity R
unfolding hop_of
made_answer last capacity [] l = let b : ltb last 0 ≡ false = grind (arith, nat_tests) in rw b
made_answer last capacity (x ∷ xs) l = absurd (omega arith)

pub made_rules : (last capacity : ℕ) (R : List Rule) (h : ℕ) → length R ≡ 0 → put_rules capacity R 0 last h ≡ make_rules last capacity R h
unfolding insert hop_of
made_rules last capacity [] h l = let b : ltb last 0 ≡ false = grind (arith, nat_tests) in rw b
made_rules last capacity (x ∷ xs) h l = absurd (omega arith)
