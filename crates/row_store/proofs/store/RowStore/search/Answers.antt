-- The closure tells how a held rule and the range stand in the order.
use Rattle.std.proofs.Common.{rules, of_calls}
use Rattle.std.proofs.lemmas.Fn.{always_returns_same}
use Rattle.rules.specs.Rules.{order}
use Rattle.rules.specs.Answers.{numbered}
use Rattle.rules.proofs.Places.{ordered_decides}
use Rattle.row_store.proofs.Scans.{searched_front}
use Rattle.row_store.proofs.store.RowStore.search.Goals as goal

pub returns : goal.returns
returns g c =
    let num = g.A.AddressKind.num in
    let m = c.args.self.now in
    let r = numbered num c.args.sought.now in
    let by = c.binary_search_by.ensures.position (λ x. order (numbered num x) r) (always_returns_same _ _ _ (λ a r f k. search (rules, of_calls))) in
    rw (← c.held-held.ensures) (searched_front num (num c.args.sought.now.start) (num c.args.sought.now.finish) c.held-held.result.now c.reach.result c.binary_search_by.result (rw c.held-held.ensures ((ordered_decides _).0 m.order)) c.reach.ensures c.binary_search_by.ensures.bound by)
