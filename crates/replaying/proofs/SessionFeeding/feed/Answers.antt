use Rattle.std.proofs.Common.{arith}
use Rattle.report.specs.Laws.{text-written}
use Rattle.pieces.specs.FeedingLaws.{eats}
use Rattle.replaying.specs.Replay.{play, show_row}
use Rattle.replaying.specs.Session.{feed_of, session_of}
use Rattle.replaying.proofs.SessionFeeding.feed.Goals as goal

pub returns : goal.returns
returns c =
    let w = c.feed.ensures in
    eats play show_row feed_of session_of 64 (omega arith) c.args.self w.taken w.session (text-written w.wrote) w.wrote.within
