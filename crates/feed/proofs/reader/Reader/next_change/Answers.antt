use Rattle.std.proofs.Common.{◌+◌, Some, refl, ap, ◌∙◌}
use Rattle.feed.specs.Reads.{placed, left, taken, as_change}
use Rattle.feed.specs.Readers.{unread}
use Rattle.feed.proofs.Tails.{found, moved_by}
use Rattle.feed.proofs.reader.Reader.next_change.Goals as goal

pub overflow_sub-self : goal.overflow_sub-self
overflow_sub-self g c =
    let o = c.in_ok-record.ensures.ok_part ∙ ap (λ r. Some (r, c.in_ok-record.rest)) c.in-Change.is in
    let e = found g.A.AddressKind.num g.A.FeedKind.width _ _ _ _ _ o c.in_ok-decode.ensures c.unread.ensures.value in
    (moved_by g.A.FeedKind.width _ _ _ _ c.args.self.now.within e).fits

pub returns : goal.returns
returns g c =
    let self = c.args.self.now in
    let o = c.in_ok-record.ensures.ok_part ∙ ap (λ r. Some (r, c.in_ok-record.rest)) c.in-Change.is in
    let e = found g.A.AddressKind.num g.A.FeedKind.width _ _ _ _ _ o c.in_ok-decode.ensures c.unread.ensures.value in
    let m = moved_by g.A.FeedKind.width _ _ _ _ self.within e in
    record {
      answer = ap (λ read. placed self.place (as_change read)) e;
      after = m.after ∙ ap (λ read. left (unread self) (as_change read)) e;
      place = m.by ∙ ap (λ read. self.place + taken (unread self) (as_change read)) e;
      same = refl {a = self.feed};
    }
