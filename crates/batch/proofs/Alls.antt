-- The changes of a list one after another.
use Rattle.std.proofs.Common.{◌≡◌, ℕ, ◌+◌, ◌<◌, ◌≤◌, cond, List, [], ◌∷◌, length, get_or, take, drop, set, is_ok, Ok, Err, Option, sym, refl, ap, ◌∙◌, arith}
use Rattle.std.proofs.lemmas.List.{take_more_set, take-set, take_all, drop_more, drop_all, drop-set-lt, map-set, set-get_or, get_or-map}
use Rattle.rules.specs.declared.refusal.Refusal.{Refusal}
use Rattle.rules.specs.Rules.{Rule}
use Rattle.batch.specs.declared.change.Change.{Change}
use Rattle.batch.specs.declared.staging.Staged.{Staged}
use Rattle.batch.specs.Changes.{numbered_change, start_of, finish_of, numbered_changes, changes}
use Rattle.batch.specs.Applied.{change_answer, change_rules, change_left, all_answer, all_rules, all_left, then, undone, unwind}
use Rattle.batch.proofs.Backs.{unwind_push}

-- a place written with its own change and another note
abbrev pub noted : {A : Type 0} → Staged A → Option ℕ → Staged A
noted x note = record { change = x.change; note = note }

module _ {A : Type 0} (num : A → ℕ) (last capacity : ℕ) (R : List Rule) (xs : List (Staged A)) where
  -- after i changes of xs to R: the rules are S, the list is ys
  pub record Going (room : ℕ) (S : List Rule) (ys : List (Staged A)) (i : ℕ) : Type 0 where
    pub same : room ≡ capacity
    pub answer : all_answer last capacity S (numbered_changes num (drop i ys)) ≡ all_answer last capacity R (numbered_changes num xs)
    pub left : all_rules S (numbered_changes num (drop i ys)) ≡ all_rules R (numbered_changes num xs)
    pub back : unwind num capacity S (take i ys) ≡ R
    pub kept : changes ys ≡ changes xs

  pub going_start : Going capacity R xs 0
  unfolding unwind
  going_start = record { same = refl; answer = refl; left = refl; back = refl; kept = refl }

  module _ (room : ℕ) (S : List Rule) (ys : List (Staged A)) (i : ℕ) (d : Staged A) (go : Going room S ys i) (h : i < length ys) where
    abbrev here : Staged A
    here = get_or ys i d

    abbrev change : Change ℕ
    change = numbered_change num here.change

    abbrev behind : List (Change ℕ)
    behind = numbered_changes num (drop (i + 1) ys)

    next : numbered_changes num (drop i ys) ≡ change ∷ behind
    next = ap (numbered_changes num) (drop_more ys i d h)

    answer_here : all_answer last capacity S (change ∷ behind) ≡ all_answer last capacity R (numbered_changes num xs)
    answer_here = ap (all_answer last capacity S) (sym next) ∙ go.answer

    pub going-err : (f : Refusal) → Err f ≡ change_answer last room S change → Err f ≡ all_answer last capacity R (numbered_changes num xs)
    unfolding all_answer
    going-err f a =
        ap (λ t. then t (all_answer last capacity (change_rules S change) behind)) (a ∙ ap (λ k. change_answer last k S change) go.same) ∙ answer_here

    pub going_on : (room' : ℕ) (T : List Rule) (note : Option ℕ) → room' ≡ room → Ok tt ≡ change_answer last room S change → T ≡ change_left last room S change
        → undone room T (num (start_of here.change)) (num (finish_of here.change)) note ≡ S
        → Going room' T (set ys i (noted here note)) (i + 1)
    unfolding all_answer all_rules
    going_on room' T note m a s b =
        let x = noted here note in
        let a' : Ok tt ≡ change_answer last capacity S change = a ∙ ap (λ k. change_answer last k S change) go.same in
        let s' : T ≡ change_rules S change = s ∙ ap (λ t. cond (is_ok t) (change_rules S change) S) (sym a) in
        let b' : undone capacity T (num (start_of here.change)) (num (finish_of here.change)) note ≡ S = ap (λ k. undone k T (num (start_of here.change)) (num (finish_of here.change)) note) (sym go.same) ∙ b in
        let r : drop (i + 1) (set ys i x) ≡ drop (i + 1) ys = drop-set-lt (i + 1) ys i x (omega arith) in
        let k : changes (set ys i x) ≡ changes ys =
        map-set (λ y. y.change) ys i x
        ∙ (ap (λ y. set (changes ys) i y) (sym (get_or-map (λ y. y.change) ys i d here.change h)) ∙ set-get_or (changes ys) i here.change) in
        record {
          same = m ∙ go.same;
          answer = rw (r, s') (ap (λ t. then t (all_answer last capacity (change_rules S change) behind)) a' ∙ answer_here);
          left = rw (r, s') (ap (all_rules S) (sym next) ∙ go.left);
          back = rw (take_more_set ys i x h, unwind_push num capacity T (take i ys) x, b') go.back;
          kept = k ∙ go.kept;
        }

    -- a refused change leaves the set as it was, and the changes before it are taken back
    pub going_back : (f : Refusal) (room' : ℕ) (T U : List Rule) → room' ≡ room → Err f ≡ change_answer last room S change → T ≡ S
        → U ≡ unwind num room' T (take i (set ys i here)) → U ≡ all_left last capacity R (numbered_changes num xs)
    going_back f room' T U m a t u =
        let b : U ≡ R = u ∙ rw (m, t, take-set ys i here, go.same) go.back in
        b ∙ ap (λ t. cond (is_ok t) (all_rules R (numbered_changes num xs)) R) (going-err f a)

  pub record Done (S : List Rule) (ys : List (Staged A)) : Type 0 where
    pub answer : Ok tt ≡ all_answer last capacity R (numbered_changes num xs)
    pub after : S ≡ all_left last capacity R (numbered_changes num xs)
    pub back : unwind num capacity S ys ≡ R

  pub going_end : (room : ℕ) (S : List Rule) (ys : List (Staged A)) (i : ℕ) → Going room S ys i → length ys ≤ i → Done S ys
  unfolding all_answer all_rules
  going_end room S ys i go l =
      let d : drop i ys ≡ [] = drop_all i ys l in
      let t : take i ys ≡ ys = take_all i ys l in
      let a : Ok tt ≡ all_answer last capacity R (numbered_changes num xs) = rw d at go.answer in
      let w : S ≡ all_rules R (numbered_changes num xs) = rw d at go.left in
      record { answer = a; after = w ∙ ap (λ t. cond (is_ok t) (all_rules R (numbered_changes num xs)) R) a; back = rw t at go.back }
