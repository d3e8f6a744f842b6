-- Tables of prefixes: what the test over the blocks means, and that each block is a prefix.
use Rattle.std.proofs.Common.{◌≡◌, ℕ, ◌^◌, Bool, true, ◌&&◌, ◌||◌, ltb, List, [], ◌∷◌, Decides, refl, subst, inl, inr}
use Rattle.std.proofs.lemmas.Bool.{false≢true, and_parts, ltb-true}
use Rattle.std.proofs.lemmas.Bool.Decides.{Decides-or, Decides-like}
use Rattle.std.specs.List.{list_all}
use Rattle.rules.specs.Rules.{Covers, covers}
use Rattle.prefix.specs.Prefixes.{Prefix, valid, Valid, range_of}
use Rattle.prefix.specs.Blocks.{In, blocks, some_covers}
use Rattle.prefix.proofs.Ranges.{valid_decides, covers_decides}

-- the test finds a prefix of the table
pub some_decides : (w : ℕ) (ps : List Prefix) (d : ℕ) → Decides (some_covers w ps d) ((p : Prefix) × (In p ps × Covers (range_of w p) d))
unfolding some_covers
some_decides w [] d = ((λ e. absurd (false≢true e)), λ h. absurd h.1.0)
some_decides w (x ∷ xs) d =
    Decides-like (covers (range_of w x) d || some_covers w xs d)
    (λ s. elim s [ inl c ↦ (x, (inl refl, c)) | inr t ↦ (t.0, (inr t.1.0, t.1.1)) ])
    (λ t. elim t.1.0 [ inl e ↦ inl (subst (λ p. Covers (range_of w p) d) e t.1.1) | inr m ↦ inr (t.0, (m, t.1.1)) ])
    (Decides-or (covers (range_of w x) d) (some_covers w xs d) (covers_decides (range_of w x) d) (some_decides w xs d))

-- a rule of a table, from one test of the whole table
each_passes : (f : Prefix → Bool) (ps : List Prefix) → list_all f ps ≡ true → (p : Prefix) → In p ps → f p ≡ true
each_passes f [] t p h = absurd h
each_passes f (x ∷ xs) t p (inl e) = rw e (and_parts (f x) (list_all f xs) t).0
each_passes f (x ∷ xs) t p (inr h) = each_passes f xs (and_parts (f x) (list_all f xs) t).1 p h

-- the test of one entry
entry : Prefix → Bool
entry p = ltb p.value (2 ^ 32) && valid 32 p

pub blocks-valid : (b : Prefix) → In b blocks → Valid 32 b
unfolding entry
blocks-valid b h =
    let t = and_parts (ltb b.value (2 ^ 32)) (valid 32 b) (each_passes entry blocks refl b h) in
    (valid_decides 32 b (ltb-true b.value (2 ^ 32) t.0)).0 t.1
