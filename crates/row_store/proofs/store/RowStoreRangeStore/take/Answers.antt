-- A take shifts the places behind the range down by one.
use Rattle.std.proofs.Common.{◌≡◌, ◌∙◌, ◌++◌, length, drop, arith, rules}
use Rattle.rules.proofs.Orders.{lt_num}
use Rattle.row_store.specs.Kept.{fits}
use Rattle.row_store.proofs.Puts.{taken}
use Rattle.row_store.proofs.store.RowStoreRangeStore.take.Goals as goal

pub invariant_of-self : goal.invariant_of-self
invariant_of-self g c =
    let m = c.args.self.now in
    let t = c.if-lt.ensures ∙ lt_num g.A.AddressKind.num g.met.A.AddressKind.by_number g.met.A.Ord.matches_partial_cmp c.args.finish c.args.start in
    let w = fits m.count (length m.row.now) m.within in
    let r : length (c.remove_at.new.places ++ drop m.count m.row.now) ≡ length m.row.now = search rules in
    record { within = rw r (omega (arith, m.within)); order = (taken g.A.AddressKind.num m.row.now m.count w m.order c.args.start c.args.finish c.in-Ok.place (length m.row.now) t c.in-Ok.ensures c.remove_at.new.places c.remove_at.auto.places c.remove_at.ensures).2 }

pub returns-clause-answer : goal.returns-clause-answer
returns-clause-answer g c =
    let m = c.args.self.now in
    let t = c.if-lt.ensures ∙ lt_num g.A.AddressKind.num g.met.A.AddressKind.by_number g.met.A.Ord.matches_partial_cmp c.args.finish c.args.start in
    let w = fits m.count (length m.row.now) m.within in
    (taken g.A.AddressKind.num m.row.now m.count w m.order c.args.start c.args.finish c.in-Ok.place (length m.row.now) t c.in-Ok.ensures c.remove_at.new.places c.remove_at.auto.places c.remove_at.ensures).0

pub returns-clause-after : goal.returns-clause-after
returns-clause-after g c =
    let m = c.args.self.now in
    let t = c.if-lt.ensures ∙ lt_num g.A.AddressKind.num g.met.A.AddressKind.by_number g.met.A.Ord.matches_partial_cmp c.args.finish c.args.start in
    let w = fits m.count (length m.row.now) m.within in
    (taken g.A.AddressKind.num m.row.now m.count w m.order c.args.start c.args.finish c.in-Ok.place (length m.row.now) t c.in-Ok.ensures c.remove_at.new.places c.remove_at.auto.places c.remove_at.ensures).1
