use Rattle.std.proofs.Common.{◌≡◌, ℕ, ◌/◌, ◌%◌, ◌^◌, ◌<◌, List, [], ◌∷◌, ◌++◌, get_or, decimal, refl, ap, sym, subst, ◌∙◌, arith}
use Rattle.lines.proofs.Writes.{grow, room_left}
use Rattle.lines.specs.Lines.{dotted}
use Rattle.lines.specs.Writes.{Wrote}
use Rattle.lines.proofs.writer.LineWriter.address.Goals as goal

-- four numbers, joined by dots
abbrev joined : ℕ → ℕ → ℕ → ℕ → List ℕ
joined a b c d = decimal a ++ (46 ∷ decimal b) ++ (46 ∷ decimal c) ++ (46 ∷ decimal d)

-- the octets of a number, read of its bytes
record Octets (n : ℕ) (bs : List ℕ) : Type 0 where
  one : get_or bs 0 0 ≡ n / 16777216
  two : get_or bs 1 0 ≡ n / 65536 % 256
  three : get_or bs 2 0 ≡ n / 256 % 256
  four : get_or bs 3 0 ≡ n % 256

octets : (n v : ℕ) (bs : List ℕ) → n < 2 ^ 32 → v ≡ n → bs ≡ v / 16777216 % 256 ∷ v / 65536 % 256 ∷ v / 256 % 256 ∷ v % 256 ∷ [] → Octets n bs
octets n v bs h e f =
    let one : n / 16777216 % 256 ≡ n / 16777216 = omega arith in
    subst (Octets n) (sym (f ∙ ap (λ v. v / 16777216 % 256 ∷ v / 65536 % 256 ∷ v / 256 % 256 ∷ v % 256 ∷ []) e)) (record { one = one; two = refl; three = refl; four = refl })

pub octet-requires-3 : goal.octet-requires-3
octet-requires-3 c = omega (arith, room_left c.octet.ensures.wrote, room_left c.octet-2.ensures.wrote)

pub octet-requires-4 : goal.octet-requires-4
octet-requires-4 c =
    omega (arith, room_left c.octet.ensures.wrote, room_left c.octet-2.ensures.wrote, room_left c.octet-3.ensures.wrote)

pub returns-clause-wrote : goal.returns-clause-wrote
unfolding dotted
returns-clause-wrote c =
    let w = grow (grow (grow c.octet.ensures.wrote c.octet-2.ensures.wrote) c.octet-3.ensures.wrote) c.octet-4.ensures.wrote in
    let o = octets c.args.address.value _ _ (omega arith) c.value.ensures c.to_be_bytes.ensures in
    subst (λ bs. Wrote c.args.self.now (32 ∷ bs) c.octet-4.new.self) (λ i. joined (o.one i) (o.two i) (o.three i) (o.four i)) w
