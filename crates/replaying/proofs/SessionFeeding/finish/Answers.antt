use Rattle.std.proofs.Common.{arith, le-leb, ◌∙◌}
use Rattle.masks.specs.PickLaws.{pick_true}
use Rattle.report.specs.Laws.{text-written, fits}
use Rattle.pieces.specs.FeedingLaws.{ends}
use Rattle.replaying.specs.Replay.{play, show_row}
use Rattle.replaying.specs.Session.{feed_of, session_of, finished_of}
use Rattle.replaying.specs.RunLaws.{session-back}
use Rattle.replaying.proofs.SessionFeeding.finish.Goals as goal

pub returns : goal.returns
unfolding finished_of
returns c =
    let w = c.finish.ensures in
    ends play show_row feed_of session_of session-back c.args.self
    (λ room. text-written w.wrote ∙ fits c.args.out.now 0 _ (omega arith))
    (λ room. w.session ∙ pick_true _ _ _ (le-leb 64 _ (omega arith)))
    w.wrote.within
