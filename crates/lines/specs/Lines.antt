-- The line of an answer.
use Rattle.std.specs.Prelude.{ℕ, ◌/◌, ◌%◌, ◌^◌, ◌<◌, ◌≤◌, cond, List, [], ◌∷◌, ◌++◌, length, drop, Ok, Err, codes, decimal, Result, nat_lt}
use Rattle.std.specs.List.{flat_map}
use Rattle.rules.specs.Refusals.{number}
use Rattle.rules.specs.declared.refusal.Refusal.{Refusal}
use Rattle.rules.specs.declared.refusal.Refusal.TheVariants.{ShortBuffer}
use Rattle.address.specs.declared.ipv4.Ipv4.{Ipv4}
use Rattle.lines.specs.declared.answer.Answer.{Answer}
use Rattle.lines.specs.declared.answer.Answer.TheVariants.{Added, Removed, Found, Committed, Fault}

-- an address as four decimal numbers with dots between
unfoldable pub dotted : ℕ → List ℕ
dotted a = decimal (a / 16777216) ++ (46 ∷ decimal (a / 65536 % 256)) ++ (46 ∷ decimal (a / 256 % 256)) ++ (46 ∷ decimal (a % 256))

abbrev pub refused : Refusal → List (List ℕ)
refused e = codes "no" ∷ decimal (number e) ∷ []

abbrev pub updated : Result (Unit {0}) Refusal → List (List ℕ)
updated (Ok u) = codes "ok" ∷ []
updated (Err e) = refused e

abbrev pub found : Result (Ipv4 × Ipv4 × ℕ) Refusal → List (List ℕ)
found (Ok rule) = dotted rule.0.value ∷ dotted rule.1.value ∷ decimal rule.2 ∷ []
found (Err e) = refused e

abbrev pub committed : Result ℕ Refusal → List (List ℕ)
committed (Ok n) = codes "ok" ∷ decimal n ∷ []
committed (Err e) = refused e

-- the parts of the line behind its letter
abbrev pub parts : Answer → List (List ℕ)
parts (Added r) = updated r
parts (Removed r) = updated r
parts (Found r) = found r
parts (Committed r) = committed r
parts (Fault e place) = codes "no" ∷ decimal (number e) ∷ decimal place ∷ []

abbrev pub letter : Answer → List ℕ
letter (Added r) = codes "A"
letter (Removed r) = codes "R"
letter (Found r) = codes "L"
letter (Committed r) = codes "B"
letter (Fault e place) = codes "F"

abbrev pub spaced : List (List ℕ) → List ℕ
spaced = flat_map (λ part. 32 ∷ part)

-- the letter, the parts with a space before each, and the end of the line
abbrev pub line : Answer → List ℕ
line a = letter a ++ (spaced (parts a) ++ (10 ∷ []))

-- what is told of a line, and what the buffer then holds
abbrev pub line_answer : List ℕ → Answer → Result ℕ Refusal
line_answer out a = cond (nat_lt (length out) 40) (Err ShortBuffer) (Ok (length (line a)))

abbrev pub line_buffer : List ℕ → Answer → List ℕ
line_buffer out a = cond (nat_lt (length out) 40) out (line a ++ drop (length (line a)) out)

-- what the types of an answer's numbers say of them
abbrev pub Sized : Answer → Type 0
Sized (Added r) = Unit {0}
Sized (Removed r) = Unit {0}
Sized (Found (Ok rule)) = rule.2 < 2 ^ 16
Sized (Found (Err e)) = Unit {0}
Sized (Committed (Ok n)) = n < 2 ^ 64
Sized (Committed (Err e)) = Unit {0}
Sized (Fault e place) = place < 2 ^ 64

abbrev pub FitsLaw : Type 0
FitsLaw = (a : Answer) → Sized a → length (line a) ≤ 40
