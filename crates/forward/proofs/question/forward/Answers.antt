-- The test of the blocks decides which case the answer is.
use Rattle.std.proofs.Common.{◌≡◌, ℕ, false, Err, sym, ◌∙◌, rules}
use Rattle.std.proofs.lemmas.Bool.{false≢true}
use Rattle.address.specs.Numbers.{ipv4_num}
use Rattle.prefix.specs.Blocks.{blocks, Blocked, blocked}
use Rattle.prefix.proofs.Tables.{some_decides}
use Rattle.forward.specs.declared.question.Unforwarded.TheVariants.{Refused}
use Rattle.forward.proofs.question.forward.Goals as goal

outside : (d : ℕ) → false ≡ blocked d → Blocked d → ⊥
outside d e h = false≢true (e ∙ (some_decides 32 blocks d).1 h)

pub returns-then-is_blocked-clause-right : goal.returns-then-is_blocked-clause-right
returns-then-is_blocked-clause-right g c = (some_decides 32 blocks (ipv4_num c.args.destination)).0 (sym c.if-is_blocked.ensures)

pub returns-in_err-lookup-clause-right : goal.returns-in_err-lookup-clause-right
returns-in_err-lookup-clause-right g c =
    let e : c.from_residual.result ≡ Err (Refused c.in_err-lookup.field-0.0) = search rules in
    rw e (outside (ipv4_num c.args.destination) c.if-is_blocked.ensures, c.in_err-lookup.ensures.right)

pub returns-clause-right : goal.returns-clause-right
returns-clause-right g c = (outside (ipv4_num c.args.destination) c.if-is_blocked.ensures, c.in_ok-lookup.ensures.right)
