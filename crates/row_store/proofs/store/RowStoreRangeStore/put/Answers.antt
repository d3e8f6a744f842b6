-- A put replaces at the range's place, or shifts the places behind it up by one.
use Rattle.std.proofs.Common.{◌≡◌, ◌∙◌, ◌<◌, ◌+◌, ◌++◌, length, drop, arith, rules}
use Rattle.rules.specs.Answers.{capped}
use Rattle.rules.proofs.Orders.{lt_num}
use Rattle.row_store.specs.Kept.{fits}
use Rattle.row_store.proofs.Puts.{replaced, entered}
use Rattle.row_store.proofs.store.RowStoreRangeStore.put.Goals as goal

pub invariant_of-self : goal.invariant_of-self
invariant_of-self g c =
    let m = c.args.self.now in
    let t = c.if-lt.ensures ∙ lt_num g.A.AddressKind.num g.met.A.AddressKind.by_number g.met.A.Ord.matches_partial_cmp c.args.finish c.args.start in
    let w = fits m.count (length m.row.now) m.within in
    record { within = search rules; order = (replaced g.A.AddressKind.num m.row.now m.count w m.order c.args.start c.args.finish c.in-Ok.place (capped (length m.row.now)) t c.in-Ok.ensures c.args.hop).2 }

pub returns-in-Ok-clause-answer : goal.returns-in-Ok-clause-answer
returns-in-Ok-clause-answer g c =
    let m = c.args.self.now in
    let t = c.if-lt.ensures ∙ lt_num g.A.AddressKind.num g.met.A.AddressKind.by_number g.met.A.Ord.matches_partial_cmp c.args.finish c.args.start in
    let w = fits m.count (length m.row.now) m.within in
    (replaced g.A.AddressKind.num m.row.now m.count w m.order c.args.start c.args.finish c.in-Ok.place (capped (length m.row.now)) t c.in-Ok.ensures c.args.hop).0

pub returns-in-Ok-clause-after : goal.returns-in-Ok-clause-after
returns-in-Ok-clause-after g c =
    let m = c.args.self.now in
    let t = c.if-lt.ensures ∙ lt_num g.A.AddressKind.num g.met.A.AddressKind.by_number g.met.A.Ord.matches_partial_cmp c.args.finish c.args.start in
    let w = fits m.count (length m.row.now) m.within in
    (replaced g.A.AddressKind.num m.row.now m.count w m.order c.args.start c.args.finish c.in-Ok.place (capped (length m.row.now)) t c.in-Ok.ensures c.args.hop).1

pub invariant_of-self-in-Err : goal.invariant_of-self-in-Err
invariant_of-self-in-Err g c =
    let m = c.args.self.now in
    let t = c.if-lt.ensures ∙ lt_num g.A.AddressKind.num g.met.A.AddressKind.by_number g.met.A.Ord.matches_partial_cmp c.args.finish c.args.start in
    let w = fits m.count (length m.row.now) m.within in
    let n : m.count < capped (length m.row.now) = omega (arith, m.within, c.capacity.ensures) in
    let r : length (c.insert_at.new.places ++ drop (m.count + 1) m.row.now) ≡ length m.row.now = search rules in
    record { within = rw r (omega (arith, n)); order = (entered g.A.AddressKind.num m.row.now m.count w m.order c.args.start c.args.finish c.in-Err.place (capped (length m.row.now)) t c.in-Err.ensures n (omega (arith, n)) c.args.hop c.insert_at.new.places c.insert_at.auto.places c.insert_at.ensures).1 }

pub returns-else-self-capacity-clause-after : goal.returns-else-self-capacity-clause-after
returns-else-self-capacity-clause-after g c =
    let m = c.args.self.now in
    let t = c.if-lt.ensures ∙ lt_num g.A.AddressKind.num g.met.A.AddressKind.by_number g.met.A.Ord.matches_partial_cmp c.args.finish c.args.start in
    let w = fits m.count (length m.row.now) m.within in
    let n : m.count < capped (length m.row.now) = omega (arith, m.within, c.capacity.ensures) in
    (entered g.A.AddressKind.num m.row.now m.count w m.order c.args.start c.args.finish c.in-Err.place (capped (length m.row.now)) t c.in-Err.ensures n (omega (arith, n)) c.args.hop c.insert_at.new.places c.insert_at.auto.places c.insert_at.ensures).0
