use Rattle.std.proofs.Common.{◌≡◌, true, false, rules}
use Rattle.rules.specs.Rules.{same}
use Rattle.table.specs.Answers.{told_rule}
use Rattle.table.proofs.resolution.most_specific.Goals as goal

pub returns-then-eq : goal.returns-then-eq
returns-then-eq g c =
    let k = g.S.Kind.AddressKind.num in
    let t : true ≡ same (told_rule k c.in_ok-rule.rule) (told_rule k c.in_ok-closest.closest) = search rules in
    search rules

pub returns-else-eq : goal.returns-else-eq
returns-else-eq g c =
    let k = g.S.Kind.AddressKind.num in
    let t : false ≡ same (told_rule k c.in_ok-rule.rule) (told_rule k c.in_ok-closest.closest) = search rules in
    search rules
