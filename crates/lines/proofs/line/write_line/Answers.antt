use Rattle.std.proofs.Common.{◌≡◌, false, ltb, [], ◌∷◌, ◌++◌, length, sym, subst, rules}
use Rattle.lines.specs.Writes.{Wrote}
use Rattle.lines.specs.Lines.{spaced, parts, line_buffer}
use Rattle.lines.proofs.Writes.{grow, whole}
use Rattle.lines.proofs.line.write_line.Goals as goal

pub returns-clause-after : goal.returns-clause-after
returns-clause-after c =
    let a = c.args.answer in
    let out = c.args.out.now in
    let w = grow c.byte.ensures (grow c.write_parts.ensures.wrote c.byte-2.ensures) in
    let v = subst (λ l. Wrote c.new-line.result (l ++ (spaced (parts a) ++ (10 ∷ []))) c.byte-2.new.self) (sym c.letter.ensures) w in
    let b : ltb (length out) 40 ≡ false = search rules in
    let e : c.byte-2.new.self.buffer.now ≡ line_buffer out a = simp b (whole v c.new-line.ensures.text c.new-line.ensures.rest) in
    search rules
