-- The control plane's answer. The rules see the control state, the buffers' identifiers and lengths, and a step with its
-- payload put to 0; they answer a plan, which the data plane then carries out on the buffers' bytes.
use Rattle.std.specs.Prelude.{ℕ, List, [], get_or}
use Rattle.contents.specs.Bytes.{Head, no_head}
use Rattle.rules.specs.declared.Control.{Control}
use Rattle.rules.specs.declared.Answer.{Answer}
use Rattle.rules.specs.Steps.{Step}

abbrev pub head_at : List Head → ℕ → Head
head_at hs n = get_or hs n no_head

-- what a plan does to the buffers' bytes
pub data Move : Type 0 where
  -- every buffer and both places zero
  wipe : Move
  -- identifier, or length, of buffer n becomes v
  set_ident : ℕ → ℕ → Move
  set_length : ℕ → ℕ → Move
  -- data byte j of buffer n becomes the value that the step writes
  set_data : ℕ → ℕ → Move
  -- the frame that the step brings is stored in buffer n
  store : ℕ → Move
  -- it waits in place k
  hold : ℕ → Move
  -- the frame in place k is stored in buffer n
  release : ℕ → ℕ → Move

-- what a plan answers
pub data Reply : Type 0 where
  say : Answer → Reply
  -- data byte j of buffer n
  show : ℕ → ℕ → Reply
  -- the frame in buffer n
  send : ℕ → Reply

pub record Plan : Type 0 where
  pub control : Control
  pub moves : List Move
  pub reply : Reply
  -- W8: how many dedicated receive buffers were examined
  pub looked : ℕ

-- only the control state changes
abbrev pub plain : Control → Answer → Plan
plain c a = record { control = c; moves = []; reply = say a; looked = 0 }

-- the plan of a step that examined k buffers
abbrev pub with_looked : Plan → ℕ → Plan
with_looked p k = record { control = p.control; moves = p.moves; reply = p.reply; looked = k }

-- The rules, whatever they are. They are given the step with its payload put to 0 (`step_by` of a session).
abbrev pub Rules : Type 0
Rules = Control → List Head → Step → Plan
