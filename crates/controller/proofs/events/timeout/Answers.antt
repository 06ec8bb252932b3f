use mathlib.Core.Path.{ap, ◌∙◌}
use Rattle.masks.specs.Pick.{pick}
use Rattle.rules.specs.Refusals.{refusal}
use Rattle.rules.specs.Rules.{act, decide}
use Rattle.controller.specs.Code.{ruling_for, said_change}
use Rattle.controller.proofs.events.timeout.Goals as goal

pub returns : goal.returns
unfolding ruling_for decide refusal act pick
returns c = c.said.ensures ∙ ap (said_change c.args.c.control) c.on_timeout.ensures
