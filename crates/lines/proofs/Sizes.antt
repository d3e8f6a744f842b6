-- How long the parts of a line are.
use Rattle.std.proofs.Common.{ℕ, ◌/◌, ◌%◌, ◌^◌, ◌<◌, ◌≤◌, length, decimal, arith, length-append, rules}
use Rattle.std.proofs.lemmas.Fmt.{length-decimal-le}
use Rattle.rules.specs.Refusals.{number}
use Rattle.rules.specs.declared.refusal.Refusal.{Refusal}
use Rattle.lines.specs.Lines.{dotted}

pub octet_short : (n : ℕ) → n < 2 ^ 8 → length (decimal n) ≤ 3
octet_short n h = length-decimal-le 3 n (omega arith) (omega arith) (omega arith)

pub hop_short : (n : ℕ) → n < 2 ^ 16 → length (decimal n) ≤ 5
hop_short n h = length-decimal-le 5 n (omega arith) (omega arith) (omega arith)

pub size_short : (n : ℕ) → n < 2 ^ 64 → length (decimal n) ≤ 20
size_short n h = length-decimal-le 20 n (omega arith) (omega arith) h

pub number_small : (e : Refusal) → number e ≤ 16
number_small e = search rules

pub number_short : (e : Refusal) → length (decimal (number e)) ≤ 2
number_short e = let h = number_small e in length-decimal-le 2 (number e) (omega arith) (omega arith) (omega arith)

pub dotted_short : (a : ℕ) → a < 2 ^ 32 → length (dotted a) ≤ 15
unfolding dotted
dotted_short a h =
    simp length-append (omega (arith, octet_short (a / 16777216) (omega arith), octet_short (a / 65536 % 256) (omega arith), octet_short (a / 256 % 256) (omega arith), octet_short (a % 256) (omega arith)))
