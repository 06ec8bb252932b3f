use mathlib.Core.Path.{sym, ◌∙◌}
use Rattle.std.proofs.Common.{ap₂}
use Rattle.controller.specs.Code.{staying}
use Rattle.controller.specs.CodeLaws.{reset-step}
use Rattle.controller.proofs.Controller.reset.Goals as goal

pub returns : goal.returns
returns c = ap₂ staying c.after_reset.ensures c.accepted.ensures ∙ sym (reset-step c.args.self)
