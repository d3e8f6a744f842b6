-- One write behind another.
use Rattle.std.proofs.Common.{◌≡◌, ℕ, ◌+◌, ◌-◌, List, [], ◌++◌, length, drop, sym, ap, ◌∙◌, append_assoc, arith, ap₂, length-append, length-drop, take-append-drop}
use Rattle.std.proofs.lemmas.List.{drop-drop}
use Rattle.lines.specs.declared.writer.LineWriter.{LineWriter}
use Rattle.lines.specs.Writes.{text, rest, room, Wrote}

-- one write behind another is one write of both
pub grow : {u v w : LineWriter} {vs bs : List ℕ} → Wrote u vs v → Wrote v bs w → Wrote u (vs ++ bs) w
grow {u} {v} {w} {vs} {bs} p q =
    let k : length vs + length bs ≡ length (vs ++ bs) = omega (arith, length-append vs bs) in
    record {
      after = q.after ∙ ap (λ xs. xs ++ bs) p.after ∙ append_assoc (text u) vs bs;
      behind = q.behind ∙ ap (drop (length bs)) p.behind ∙ drop-drop (length bs) (length vs) (rest u) ∙ ap (λ n. drop n (rest u)) k;
      same = q.same ∙ p.same;
    }

-- how much room a write leaves
pub room_left : {u v : LineWriter} {bs : List ℕ} → Wrote u bs v → room v ≡ room u - length bs
room_left {u} {v} {bs} p = ap length p.behind ∙ length-drop (length bs) (rest u)

-- what a buffer holds once bs is all that was written
pub whole : {u v : LineWriter} {bs out : List ℕ} → Wrote u bs v → text u ≡ [] → rest u ≡ out → v.buffer.now ≡ bs ++ drop (length bs) out
whole {u} {v} {bs} p e f =
    sym (take-append-drop v.place v.buffer.now)
    ∙ ap₂ ◌++◌ (p.after ∙ ap (λ xs. xs ++ bs) e) (p.behind ∙ ap (drop (length bs)) f)
