-- What applying the first changes of a list answers and leaves.
use Rattle.std.proofs.Common.{◌≡◌, ℕ, ◌≤◌, false, cond, ltb, List, map, ◌++◌, length, take, drop, is_ok, Ok, Err, Result, sym, refl, ap, ◌∙◌, arith}
use Rattle.std.proofs.lemmas.Bool.Decides.{nat_tests}
use Rattle.std.proofs.lemmas.List.{length-map, map-append, take-map, take-append-drop}
use Rattle.rules.specs.declared.refusal.Refusal.{Refusal}
use Rattle.rules.specs.Rules.{Rule}
use Rattle.batch.specs.declared.staging.Staged.{Staged}
use Rattle.batch.specs.Changes.{numbered_change, changes, numbered_changes}
use Rattle.batch.specs.Applied.{then, all_answer, all_rules, all_left, apply_answer, apply_rules}

pub kept_behind : {A : Type 0} (n : ℕ) (xs ys : List (Staged A)) → changes ys ≡ changes (take n xs) → changes (ys ++ drop n xs) ≡ changes xs
kept_behind n xs ys e = map-append (λ x. x.change) ys (drop n xs) ∙ (ap (λ c. c ++ changes (drop n xs)) e ∙ (sym (map-append (λ x. x.change) (take n xs) (drop n xs)) ∙ ap changes (take-append-drop n xs)))

module _ {A : Type 0} (num : A → ℕ) (last capacity : ℕ) (R : List Rule) (xs : List (Staged A)) (n N : ℕ) (e : n ≡ N) (h : n ≤ length xs) where
  first : take n (numbered_changes num xs) ≡ numbered_changes num (take n xs)
  first = take-map (numbered_change num) n (changes xs) ∙ ap (map (numbered_change num)) (take-map (λ x. x.change) n xs)

  enough : ltb (length (numbered_changes num xs)) n ≡ false
  enough =
      let l : length (numbered_changes num xs) ≡ length xs = length-map (changes xs) (numbered_change num) ∙ length-map xs (λ x. x.change) in
      grind (arith, nat_tests)

  -- what the first n changes answer, as applying them does
  pub answer_of : (r : Result (Unit {0}) Refusal) → r ≡ all_answer last capacity R (numbered_changes num (take n xs)) → then r (Ok n) ≡ apply_answer last capacity R N (numbered_changes num xs)
  answer_of r a = rw (← e, enough, first, ← a)

  pub left_of : all_left last capacity R (numbered_changes num (take n xs)) ≡ apply_rules last capacity R N (numbered_changes num xs)
  left_of = rw (← e, enough, first) (go (all_answer last capacity R (numbered_changes num (take n xs))))
    where
      go : (r : Result (Unit {0}) Refusal) → cond (is_ok r) (all_rules R (numbered_changes num (take n xs))) R ≡ cond (is_ok (then r (Ok n))) (all_rules R (numbered_changes num (take n xs))) R
      go (Ok x) = refl
      go (Err f) = refl
