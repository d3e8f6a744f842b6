use Rattle.std.proofs.Common.{◌≡◌, ℕ, zero, suc, ◌/◌, ◌%◌, ◌^◌, [], ◌∷◌, ◌++◌, length, refl, ap, sym, ◌∙◌, ap₂, true, eqb, eq-eqb, pow-suc, mul_comm, arith}
use Rattle.std.specs.Int.{bytes_high_first, byte_at}
use Rattle.std.proofs.Math.Nat.{div-div-eq-div-mul}
use Rattle.byte_form.specs.Bytes.{bytes_of}
use Rattle.byte_form.specs.BytesLemmas.{bytes_append}
use Rattle.byte_form.proofs.feed_kind.Ipv6FeedKind.write_bytes.Goals as goal

byte_up : (i n : ℕ) → byte_at (suc i) n ≡ byte_at i (n / 256)
byte_up zero n = refl
byte_up (suc i) n =
    ap (λ m. m % 256) (ap (λ p. n / p) (pow-suc 256 (suc i) ∙ mul_comm (256 ^ suc i) 256) ∙ sym (div-div-eq-div-mul n 256 (256 ^ suc i)))

push : (w n : ℕ) → bytes_high_first (suc w) n ≡ bytes_high_first w (n / 256) ++ (n % 256 ∷ [])
push zero n = refl
push (suc w) n = ap₂ ◌∷◌ (byte_up w n) (push w n)

high_first : (w n : ℕ) → bytes_high_first w n ≡ bytes_of w n
unfolding bytes_of
high_first zero n = refl
high_first (suc w) n = push w n ∙ ap (λ bs. bs ++ (n % 256 ∷ [])) (high_first w (n / 256))

pub returns-clause-after : goal.returns-clause-after
returns-clause-after c =
    let self = c.args.self in
    let h = c.copy_from_slice.ensures.after ∙ c.to_be_bytes.ensures ∙ high_first 8 c.high.result ∙ ap (bytes_of 8) c.high.ensures in
    let l = c.copy_from_slice-2.ensures.after ∙ c.to_be_bytes-2.ensures ∙ high_first 8 c.low.result ∙ ap (bytes_of 8) c.low.ensures in
    let t : eqb (length c.args.out.now) 16 ≡ true = eq-eqb (length c.args.out.now) 16 (omega arith) in
    rw t (ap₂ ◌++◌ h l ∙ sym (bytes_append 8 8 self.high self.low self.high_ok self.low_ok))
