-- Steps that bring bytes: numbers below 256.
use Rattle.std.specs.Prelude.{ℕ, ◌<◌, List, [], ◌∷◌, get_or}
use Rattle.rules.specs.Steps.{Step, value_in, frame_in}
use Rattle.controller.specs.Carry.{reset_state}
use Rattle.controller.specs.declared.Answered.{Answered}
use Rattle.controller.specs.Session.{step_of, end_of}
use Rattle.controller.specs.Calls.{answered_of}

-- every number of the list is a byte
abbrev pub Bytes : List ℕ → Type 0
Bytes xs = (i : ℕ) → get_or xs i 0 < 256

-- the value that a step writes and every byte of its frame are below 256; its other numbers and its room may be any
pub record BringsBytes (e : Step) : Type 0 where
  pub value : value_in e < 256
  pub frame : Bytes (frame_in e)

abbrev pub AllBytes : List Step → Type 0
AllBytes [] = Unit {0}
AllBytes (e ∷ es) = BringsBytes e × AllBytes es

-- what the step e answers after the steps es from reset
abbrev pub answer_after : List Step → Step → Answered
answer_after es e = answered_of (step_of (end_of reset_state es) e)
