-- The laws of prefixes over the width, which every kind cites.
use Rattle.std.proofs.Common.{◌≡◌, ℕ, zero, suc, ◌+◌, ◌-◌, ◌*◌, ◌/◌, ◌%◌, ◌^◌, ◌<◌, ◌≤◌, true, Decides, sym, ap, ◌∙◌, inl, inr, mod-eq_of_lt, add-mul, arith}
use native.Mathlib.Nat.{mod-one, div-eq_of_lt-le}
use Rattle.std.proofs.lemmas.Nat.{pow-add, pow_pos, shr_below, shr_split, mul-le, mod_below, mod-pow-add}
use Rattle.std.proofs.lemmas.Bool.{cases_eq}
use Rattle.std.proofs.lemmas.Bool.Decides.{nat_tests}
use Rattle.rules.specs.Rules.{Rule, range, Covers, covers}
use Rattle.prefix.specs.Prefixes.{Prefix, prefix, valid, Valid, range_of, first_bits, bit}

-- a number that is clear of its last k bits has room for them
room : (w k v : ℕ) → k ≤ w → v < 2 ^ w → v % 2 ^ k ≡ 0 → v + 2 ^ k ≤ 2 ^ w
room w k v h l z =
    let e : w - k + k ≡ w = omega arith in
    let p : 2 ^ w ≡ 2 ^ (w - k) * 2 ^ k = ap (λ n. 2 ^ n) (sym e) ∙ pow-add 2 (w - k) k in
    let q : v / 2 ^ k < 2 ^ (w - k) = shr_below v (w - k) k (rw e l) in
    omega (arith, shr_split v k, add-mul (v / 2 ^ k) 1 (2 ^ k), mul-le (v / 2 ^ k + 1) (2 ^ k) (2 ^ (w - k)) (2 ^ k) (omega arith) (omega arith), p)

-- what the last k + 1 bits are worth: bit k and those behind it
last_bits : (v k : ℕ) → v % 2 ^ suc k ≡ bit v k * 2 ^ k + v % 2 ^ k
last_bits v k = let e : suc k ≡ 1 + k = omega arith in rw e (mod-pow-add v 1 k)

-- the last k bits are worth 0 where each of them is 0
bits_clear : (v k : ℕ) → v % 2 ^ k ≡ 0 → (j : ℕ) → j < k → bit v j ≡ 0
bits_clear v zero z j h = absurd (omega arith)
bits_clear v (suc k) z j h =
    let s = last_bits v k in
    let top : bit v k ≡ 0 = elim (cases_eq (bit v k) 0) [
      | inl e ↦ e
      | inr n ↦ absurd (omega (arith, pow_pos k, mul-le 1 (2 ^ k) (bit v k) (2 ^ k) (omega arith) (omega arith)))
    ] in
    elim (cases_eq j k) [
      | inl e ↦ rw e top
      | inr n ↦ bits_clear v k (omega arith) j (omega arith)
    ]

clear_bits : (v k : ℕ) → ((j : ℕ) → j < k → bit v j ≡ 0) → v % 2 ^ k ≡ 0
clear_bits v zero f = mod-one v
clear_bits v (suc k) f =
    let top = f k (omega arith) in
    let ih = clear_bits v k (λ j h. f j (omega arith)) in
    last_bits v k ∙ rw (top, ih) (omega arith)

module _ (w : ℕ) (p : Prefix) where
  pub valid_decides : p.value < 2 ^ w → Decides (valid w p) (Valid w p)
  valid_decides small = (
    (λ ok. record {
      small = small;
      within = grind (arith, nat_tests);
      clear = bits_clear p.value (w - p.length) (grind (arith, nat_tests));
    }),
    (λ v. let l = v.within in let z = clear_bits p.value (w - p.length) v.clear in grind (arith, nat_tests)),
  )

module _ (w : ℕ) (p : Prefix) (v : Valid w p) where
  behind : p.value % 2 ^ (w - p.length) ≡ 0
  behind = clear_bits p.value (w - p.length) v.clear

  pub range_forward : ((range_of w p).start ≤ (range_of w p).finish) × ((range_of w p).finish ≤ 2 ^ w - 1)
  range_forward =
      let l = v.within in
      let r = room w (w - p.length) p.value (omega arith) v.small behind in
      let q = pow_pos (w - p.length) in
      (omega arith, omega arith)

  pub default_range : p.length ≡ 0 → range_of w p ≡ range 0 (2 ^ w - 1)
  default_range e =
      let k : w - p.length ≡ w = omega arith in
      let z : p.value ≡ 0 = sym (mod-eq_of_lt v.small) ∙ (rw k at behind) in
      rw (z, k) (ap (range 0) (omega arith))

  -- a range covers the numbers of one quotient
  pub same-first_bits : (d : ℕ)
      → (Covers (range_of w p) d → first_bits w p.length d ≡ first_bits w p.length p.value)
      × (first_bits w p.length d ≡ first_bits w p.length p.value → Covers (range_of w p) d)
  same-first_bits d =
      let s = shr_split p.value (w - p.length) in
      let t = shr_split d (w - p.length) in
      let z = behind in
      let m = mod_below d (2 ^ (w - p.length)) (pow_pos (w - p.length)) in (
        (λ c. div-eq_of_lt-le (2 ^ (w - p.length)) (omega arith) (omega (arith, add-mul (p.value / 2 ^ (w - p.length)) 1 (2 ^ (w - p.length))))),
        (λ e. let f = ap (λ n. n * 2 ^ (w - p.length)) e in (omega arith, omega arith)),
      )

pub covers_decides : (r : Rule) (d : ℕ) → Decides (covers r d) (Covers r d)
covers_decides r d = ((λ e. grind (arith, nat_tests)), (λ h. grind (arith, nat_tests)))

-- the bits behind the length fit above the value
pub ends : (w v l : ℕ) → v < 2 ^ w → valid w (prefix v l) ≡ true → (l ≤ w) × (0 < 2 ^ (w - l)) × (v + 2 ^ (w - l) ≤ 2 ^ w)
ends w v l small ok =
    let p = (valid_decides w (prefix v l) small).0 ok in
    (p.within, pow_pos (w - l), omega (arith, (range_forward w (prefix v l) p).1))
