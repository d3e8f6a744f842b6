-- A set of rules beside the mirrored set: what a put and a take leave of both, and what the second answers for the first.
use Rattle.std.proofs.Common.{◌≡◌, ℕ, ◌-◌, ◌<◌, ◌≤◌, min, false, List, [], length, is_some, Some, None, Ok, Option, sym, refl, ap, ◌∙◌, arith}
use Rattle.std.specs.Option.{option_map}
use Rattle.std.proofs.lemmas.Bool.Decides.{nat_tests}
use Rattle.rules.specs.Rules.{Rule, rule, insert, delete, hop_of}
use Rattle.rules.specs.Search.{least_finish, greatest_start}
use Rattle.rules.specs.Boundaries.{next_boundary}
use Rattle.rules.specs.Answers.{Sound, put_answer}
use Rattle.mirror.specs.Mirrored.{mirrored, back, nearest_of, behind, finish_from, finish_before}
use Rattle.mirror.proofs.Mirrors.{mirrored-insert, mirrored-delete, mirrored-hop, mirrored-length, greatest_start-mirrored}
use Rattle.mirror.proofs.Nexts.{next_boundary-mirrored}
use Rattle.rules.specs.Answers.{capped}

pub mirrored_none : (last : ℕ) → mirrored last [] ≡ []
unfolding mirrored
mirrored_none last = refl

module _ {A : Type 0} (num : A → ℕ) {last room : ℕ} (bounded : (x : A) → num x ≤ last) {R S : List Rule} (K : Sound room last R) (s : S ≡ mirrored last R) where
  -- a range from a to b, and its mirror
  module _ {a b x y : A} (p : x ≡ b) (q : y ≡ a) where
    pub both_put : {R' S' : List Rule} (h : ℕ) → num a ≤ num b → R' ≡ insert (rule (num a) (num b) h) R → S' ≡ insert (rule (last - num x) (last - num y) h) S → S' ≡ mirrored last R'
    both_put h w e f =
        f ∙ (λ i. insert (rule (last - num (p i)) (last - num (q i)) h) (s i)) ∙ sym (mirrored-insert last R (rule (num a) (num b) h) K.canonical K.bounded w (bounded b)) ∙ sym (ap (mirrored last) e)

    pub both_take : {R' S' : List Rule} → R' ≡ delete (num a) (num b) R → S' ≡ delete (last - num x) (last - num y) S → S' ≡ mirrored last R'
    both_take e f = f ∙ (λ i. delete (last - num (p i)) (last - num (q i)) (s i)) ∙ sym (mirrored-delete last R (num a) (num b) K.canonical K.bounded (bounded a) (bounded b)) ∙ sym (ap (mirrored last) e)

    -- a put that isn't refused finds a place in the second tree too
    pub second_fits : (m n : ℕ) → room ≡ capped (min m n) → Ok tt ≡ put_answer room R (num a) (num b) → is_some (hop_of S (last - num x) (last - num y)) ≡ false → length S < capped n
    second_fits m n r o e =
        let h : hop_of S (last - num x) (last - num y) ≡ hop_of R (num a) (num b) = (λ i. hop_of (s i) (last - num (p i)) (last - num (q i))) ∙ mirrored-hop last R K.canonical K.bounded (num a) (num b) (bounded a) (bounded b) in
        let f : is_some (hop_of R (num a) (num b)) ≡ false = ap is_some (sym h) ∙ e in
        let fits : length R < room = grind (arith, nat_tests) in
        omega (arith, ap length s, mirrored-length last R K.canonical K.bounded)

  -- what is counted from the other end twice
  twice : (x : A) → last - (last - num x) ≡ num x
  twice x = omega (arith, bounded x)

  module _ {d x : A} (p : x ≡ d) where
    -- the greatest start is the least finish of the mirrored rules
    starts_are : {o : Option Rule} → o ≡ least_finish S (last - num x) → back last o ≡ greatest_start R (num d)
    starts_are e = ap (back last) e ∙ (λ i. back last (least_finish (s i) (last - num (p i)))) ∙ sym (greatest_start-mirrored last R (num d) K.canonical K.bounded (bounded d))

    pub no_start : None ≡ least_finish S (last - num x) → None ≡ greatest_start R (num d)
    no_start e = starts_are e

    pub start_is : {u v a b : A} {h : ℕ} → a ≡ u → b ≡ v → Some (rule (last - num v) (last - num u) h) ≡ least_finish S (last - num x) → Some (rule (num a) (num b) h) ≡ greatest_start R (num d)
    start_is {u} {v} {h = h} e f r = (λ i. Some (rule ((ap num e ∙ sym (twice u)) i) ((ap num f ∙ sym (twice v)) i) h)) ∙ starts_are r

    -- the next start is a finish of the mirrored rules
    boundary_is : {o e : Option ℕ} → o ≡ finish_before S (last - num x) → e ≡ nearest_of last (num d) (behind (finish_from R (num d))) None
        → nearest_of last (num d) (option_map (λ f. last - f) o) e ≡ next_boundary last R (num d)
    boundary_is a b =
        (λ i. nearest_of last (num d) (option_map (λ f. last - f) (a i)) (b i))
        ∙ (λ i. nearest_of last (num d) (option_map (λ f. last - f) (finish_before (s i) (last - num (p i)))) (nearest_of last (num d) (behind (finish_from R (num d))) None))
        ∙ sym (next_boundary-mirrored last R (num d) K.canonical K.bounded (bounded d))

    module _ {e : Option ℕ} (w : e ≡ nearest_of last (num d) (behind (finish_from R (num d))) None) where
      pub no_next : None ≡ finish_before S (last - num x) → e ≡ next_boundary last R (num d)
      no_next n = boundary_is n w

      pub next_is : {u a : A} → a ≡ u → Some (last - num u) ≡ finish_before S (last - num x) → nearest_of last (num d) (Some (num a)) e ≡ next_boundary last R (num d)
      next_is {u} q n = (λ i. nearest_of last (num d) (Some ((ap num q ∙ sym (twice u)) i)) e) ∙ boundary_is n w
