use Rattle.std.proofs.Common.{◌+◌, refl, ap, ◌∙◌}
use Rattle.feed.specs.Reads.{placed, left, taken}
use Rattle.feed.specs.Readers.{unread}
use Rattle.feed.proofs.Tails.{found, moved_by}
use Rattle.feed.proofs.reader.Reader.next.Goals as goal

pub overflow_sub-self : goal.overflow_sub-self
overflow_sub-self g c =
    let e = found g.A.AddressKind.num g.A.FeedKind.width _ _ _ _ _ c.in-Some.is c.in_ok-record.ensures c.unread.ensures.value in
    (moved_by g.A.FeedKind.width _ _ _ _ c.args.self.now.within e).fits

pub returns : goal.returns
returns g c =
    let self = c.args.self.now in
    let e = found g.A.AddressKind.num g.A.FeedKind.width _ _ _ _ _ c.in-Some.is c.in_ok-record.ensures c.unread.ensures.value in
    let m = moved_by g.A.FeedKind.width _ _ _ _ self.within e in
    record {
      answer = ap (placed self.place) e;
      after = m.after ∙ ap (left (unread self)) e;
      place = m.by ∙ ap (λ read. self.place + taken (unread self) read) e;
      same = refl {a = self.feed};
    }
