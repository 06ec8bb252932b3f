use Rattle.std.proofs.Common.{◌∙◌}
use Rattle.lines.proofs.LetterLaws.{past-end, in-text}
use Rattle.lines.proofs.in_text.read.Goals as goal

pub returns-then-s-from : goal.returns-then-s-from
returns-then-s-from c = past-end _ _ c.if-s-from.true

pub returns : goal.returns
returns c = c.first.ensures ∙ in-text c.args.s.now c.args.from
