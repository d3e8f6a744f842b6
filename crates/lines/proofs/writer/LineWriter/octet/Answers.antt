use Rattle.std.proofs.Common.{◌≡◌, ℕ, ◌+◌, ◌/◌, ◌%◌, ◌^◌, ◌<◌, ◌≤◌, [], ◌∷◌, ◌++◌, decimal, ap, ◌∙◌, arith}
use Rattle.std.proofs.lemmas.Fmt.{decimal_digit, decimal_step}
use Rattle.lines.proofs.Writes.{grow}
use Rattle.lines.proofs.writer.LineWriter.octet.Goals as goal
use Rattle.lines.proofs.writer.LineWriter.octet.Goals.{then-octet-ge100, else-octet-ge100, then-octet-ge10, else-octet-ge10}

one : (n : ℕ) → n < 10 → decimal n ≡ (48 + n % 10) ∷ []
one n h = let e : n ≡ n % 10 = omega arith in decimal_digit n h ∙ ap (λ k. (48 + k) ∷ []) e

two : (n : ℕ) → 10 ≤ n → n < 100 → decimal n ≡ (48 + n / 10 % 10) ∷ (48 + n % 10) ∷ []
two n l h = decimal_step n l (omega arith) ∙ ap (λ ds. ds ++ ((48 + n % 10) ∷ [])) (one (n / 10) (omega arith))

three : (n : ℕ) → 100 ≤ n → n < 2 ^ 8 → decimal n ≡ (48 + n / 100) ∷ (48 + n / 10 % 10) ∷ (48 + n % 10) ∷ []
three n l h =
    let e : n / 10 / 10 % 10 ≡ n / 100 = omega arith in
    decimal_step n (omega arith) (omega arith)
    ∙ ap (λ ds. ds ++ ((48 + n % 10) ∷ [])) (two (n / 10) (omega arith) (omega arith))
    ∙ ap (λ k. (48 + k) ∷ (48 + n / 10 % 10) ∷ (48 + n % 10) ∷ []) e

pub returns-clause-wrote : goal.returns-clause-wrote
returns-clause-wrote c =
    let n = c.args.octet in
    elim c.if-octet-ge100.branch [
      | then-octet-ge100 v ↦ elim c.if-octet-ge10.branch [
        | then-octet-ge10 w ↦ rw (three n (omega arith) (omega arith)) (grow c.byte.ensures (grow v.byte-then-octet-ge100.ensures (grow (rw v.self-is at w.byte-then-octet-ge10.ensures) (rw w.self-is at c.byte-2.ensures))))
        | else-octet-ge10 w ↦ absurd (omega arith)
      ]
      | else-octet-ge100 v ↦ elim c.if-octet-ge10.branch [
        | then-octet-ge10 w ↦ rw (two n (omega arith) (omega arith)) (grow c.byte.ensures (grow (rw v.self-is at w.byte-then-octet-ge10.ensures) (rw w.self-is at c.byte-2.ensures)))
        | else-octet-ge10 w ↦ rw (one n (omega arith)) (grow c.byte.ensures (rw v.self-is at (rw w.self-is at c.byte-2.ensures)))
      ]
    ]
