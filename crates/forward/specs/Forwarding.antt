-- What the forward question answers, by numbers.
use Rattle.std.specs.Prelude.{ℕ, cond, List, Ok, Err, Result}
use Rattle.address.specs.declared.ipv4.Ipv4.{Ipv4}
use Rattle.address.specs.Numbers.{ipv4_num}
use Rattle.rules.specs.declared.refusal.Refusal.{Refusal}
use Rattle.rules.specs.Rules.{Rule}
use Rattle.table.specs.Answers.{told_rule, lookup_answer, Right as LookedRight}
use Rattle.prefix.specs.Blocks.{Blocked, blocked}
use Rattle.forward.specs.declared.question.Unforwarded.{Unforwarded}
use Rattle.forward.specs.declared.question.Unforwarded.TheVariants.{Blocked as InBlock, Refused}

-- the answer with its rule by numbers
pub data Answer : Type 0 where
  not_forwarded : Answer
  looked_up : Result Rule Refusal → Answer

abbrev pub told : Result (Ipv4 × Ipv4 × ℕ) Unforwarded → Answer
told (Ok t) = looked_up (Ok (told_rule ipv4_num t))
told (Err InBlock) = not_forwarded
told (Err (Refused e)) = looked_up (Err e)

-- a blocked destination is not forwarded, any other is looked up
abbrev pub forward_answer : List Rule → ℕ → Answer
forward_answer R d = cond (blocked d) not_forwarded (looked_up (lookup_answer R d))

-- not forwarded if, and only if, a block covers d; else the lookup's answer is right
abbrev pub Right : List Rule → ℕ → Answer → Type 0
Right R d not_forwarded = Blocked d
Right R d (looked_up r) = (Blocked d → ⊥) × LookedRight R d r
