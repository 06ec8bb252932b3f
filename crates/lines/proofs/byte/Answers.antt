use Rattle.lines.proofs.DigitLaws.{pair-some, pair-none}
use Rattle.lines.proofs.byte.Goals as goal

pub returns-then-value-lt256 : goal.returns-then-value-lt256
returns-then-value-lt256 c = pair-some _ _ _ _ c.wide.ensures.value c.wide-2.ensures.value c.if-value-lt256.true

pub returns-else-value-lt256 : goal.returns-else-value-lt256
returns-else-value-lt256 c = pair-none _ _ _ _ c.wide.ensures.value c.wide-2.ensures.value c.if-value-lt256.false
