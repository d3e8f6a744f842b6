use Rattle.std.proofs.Common.{◌≡◌, length}
use Rattle.feed.specs.Readers.{unread}
use Rattle.feed.specs.Runs.{run}
use Rattle.feed.proofs.reader.Reader.skip_rest.Given as goal

-- the run over what is left ends as the whole run does
abbrev pub invariant-loop : goal.invariant-loop
invariant-loop g l =
    (l.self.feed ≡ l.initial.self.feed)
    × ((run g.A.FeedKind.width (unread l.self)).end ≡ (run g.A.FeedKind.width (unread l.initial.self)).end)
    × ((run g.A.FeedKind.width (unread l.self)).left ≡ (run g.A.FeedKind.width (unread l.initial.self)).left)

abbrev pub decreases-loop : goal.decreases-loop
decreases-loop g l = length (unread l.self)
