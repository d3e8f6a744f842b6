-- Rules by numbers, and sets of rules as lists in one order.
-- Each notion has a relation, with a capital, and a test that computes, without one; the laws between them are in Laws.
use Rattle.std.specs.Prelude.{◌≡◌, ℕ, ◌<◌, ◌≤◌, Bool, true, cond, ◌&&◌, ◌||◌, ◌⊎◌, List, [], ◌∷◌, Some, None, Option, ◌==◌, nat_le, nat_lt}
use Rattle.std.specs.declared.cmp.Ordering.{Ordering}
use Rattle.std.specs.declared.cmp.Ordering.TheVariants.{Less, Equal, Greater}

-- A rule sends the addresses from start to finish to its hop.
pub record Rule : Type 0 where
  pub start : ℕ
  pub finish : ℕ
  pub hop : ℕ

abbrev pub rule : ℕ → ℕ → ℕ → Rule
rule u v h = record { start = u; finish = v; hop = h }

-- the range alone
abbrev pub range : ℕ → ℕ → Rule
range u v = rule u v 0

-- r is a rule of R
abbrev pub In : Rule → List Rule → Type 0
In r [] = ⊥
In r (x ∷ xs) = (r ≡ x) ⊎ In r xs

abbrev pub Covers : Rule → ℕ → Type 0
Covers r d = (r.start ≤ d) × (d ≤ r.finish)

abbrev pub Inside : Rule → Rule → Type 0
Inside r s = (s.start ≤ r.start) × (r.finish ≤ s.finish)

-- one range, whatever the hops
abbrev pub Same : Rule → Rule → Type 0
Same r s = (r.start ≡ s.start) × (r.finish ≡ s.finish)

-- R has no rule with r's range
abbrev pub Absent : Rule → List Rule → Type 0
Absent r R = (s : Rule) → In s R → Same r s → ⊥

-- ascending finish, equal finishes by descending start
abbrev pub Earlier : Rule → Rule → Type 0
Earlier r s = (r.finish < s.finish) ⊎ ((r.finish ≡ s.finish) × (s.start < r.start))

-- every range runs forward and each rule is earlier than those behind it, so no range stands twice
abbrev pub Canonical : List Rule → Type 0
Canonical [] = Unit {0}
Canonical (x ∷ xs) = (x.start ≤ x.finish) × ((y : Rule) → In y xs → Earlier x y) × Canonical xs

-- no range goes past the last address
abbrev pub Bounded : ℕ → List Rule → Type 0
Bounded last R = (r : Rule) → In r R → r.finish ≤ last

abbrev pub earlier : Rule → Rule → Bool
earlier r s = nat_lt r.finish s.finish || (r.finish == s.finish && nat_lt s.start r.start)

abbrev pub same : Rule → Rule → Bool
same r s = r.start == s.start && r.finish == s.finish

-- how r and s stand in the order; rules of one range are equal, whatever their hops
abbrev pub order : Rule → Rule → Ordering
order r s = cond (earlier r s) Less (cond (same r s) Equal Greater)

abbrev pub covers : Rule → ℕ → Bool
covers r d = nat_le r.start d && nat_le d r.finish

unfoldable pub every : (Rule → Bool) → List Rule → Bool
every p [] = true
every p (x ∷ xs) = p x && every p xs

-- the test of Canonical, which has one proof at most
unfoldable pub ordered : List Rule → Bool
ordered [] = true
ordered (x ∷ xs) = nat_le x.start x.finish && (every (earlier x) xs && ordered xs)

-- r enters at its place in the order; a rule with its range is replaced
unfoldable pub insert : Rule → List Rule → List Rule
insert r [] = r ∷ []
insert r (x ∷ xs) = cond (same r x) (r ∷ xs) (cond (earlier r x) (r ∷ (x ∷ xs)) (x ∷ insert r xs))

-- what is left without the range [u, v]
unfoldable pub delete : ℕ → ℕ → List Rule → List Rule
delete u v [] = []
delete u v (x ∷ xs) = cond (same (range u v) x) (delete u v xs) (x ∷ delete u v xs)

unfoldable pub hop_of : List Rule → ℕ → ℕ → Option ℕ
hop_of [] u v = None
hop_of (x ∷ xs) u v = cond (same (range u v) x) (Some x.hop) (hop_of xs u v)

-- whether [u, v] goes from the first address to the last
abbrev pub is_default : ℕ → ℕ → ℕ → Bool
is_default last u v = u == 0 && v == last
