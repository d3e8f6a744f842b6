use Rattle.feed.proofs.Encodings.{encoded, decoded}
use Rattle.feed.proofs.Runs.{apart}
use Rattle.feed.proofs.laws.feeds.Goals as goal

pub returns : goal.returns
returns c = record { encoded = encoded; decoded = decoded; apart = apart }
