-- What writing into a line buffer leaves.
use Rattle.std.specs.Prelude.{◌≡◌, ℕ, List, ◌++◌, length, take, drop}
use Rattle.lines.specs.declared.writer.LineWriter.{LineWriter}

-- what is written of the line, and what the buffer holds behind it
abbrev pub text : LineWriter → List ℕ
text w = take w.place w.buffer.now

abbrev pub rest : LineWriter → List ℕ
rest w = drop w.place w.buffer.now

abbrev pub room : LineWriter → ℕ
room w = length (rest w)

-- bs was written behind the text, in the place of as many bytes of the same buffer
pub record Wrote (old : LineWriter) (bs : List ℕ) (new : LineWriter) : Type 0 where
  pub after : text new ≡ text old ++ bs
  pub behind : rest new ≡ drop (length bs) (rest old)
  pub same : new.buffer.ghost_name ≡ old.buffer.ghost_name
