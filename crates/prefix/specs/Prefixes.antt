-- Prefixes by numbers, at any width: p/l over w bits stands for the addresses whose first l bits are those of p.
use Rattle.std.specs.Prelude.{◌≡◌, ℕ, ◌+◌, ◌-◌, ◌/◌, ◌%◌, ◌^◌, ◌<◌, ◌≤◌, Bool, cond, ◌&&◌, Ok, Err, Result, ◌==◌, nat_le}
use Rattle.rules.specs.declared.refusal.Refusal.{Refusal}
use Rattle.rules.specs.declared.refusal.Refusal.TheVariants.{BadPrefix}
use Rattle.rules.specs.Rules.{Rule, range}

-- A value, and how many of its first bits count.
pub record Prefix : Type 0 where
  pub value : ℕ
  pub length : ℕ

abbrev pub prefix : ℕ → ℕ → Prefix
prefix v l = record { value = v; length = l }

-- the length fits the width, and the bits behind it are worth 0
abbrev pub valid : ℕ → Prefix → Bool
valid w p = nat_le p.length w && p.value % 2 ^ (w - p.length) == 0

-- the prefix that a value and a length make, or the refusal
abbrev pub prefix_of : ℕ → ℕ → ℕ → Result Prefix Refusal
prefix_of w v l = cond (valid w (prefix v l)) (Ok (prefix v l)) (Err BadPrefix)

-- what was made, by numbers; a refusal stays as it is
abbrev pub made : {P : Type 0} → (P → Prefix) → Result P Refusal → Result Prefix Refusal
made f (Ok p) = Ok (f p)
made f (Err e) = Err e

-- the addresses from the value on, as many as the bits behind the length can count
abbrev pub range_of : ℕ → Prefix → Rule
range_of w p = range p.value (p.value + 2 ^ (w - p.length) - 1)

-- the first l of the w bits of d
abbrev pub first_bits : ℕ → ℕ → ℕ → ℕ
first_bits w l d = d / 2 ^ (w - l)

-- bit k of v, counted from the last
abbrev pub bit : ℕ → ℕ → ℕ
bit v k = v / 2 ^ k % 2

-- a value of w bits, a length of at most w, and no bit set behind it
pub record Valid (w : ℕ) (p : Prefix) : Type 0 where
  pub small : p.value < 2 ^ w
  pub within : p.length ≤ w
  pub clear : (k : ℕ) → k < w - p.length → bit p.value k ≡ 0
