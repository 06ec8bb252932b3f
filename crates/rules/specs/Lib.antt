-- definitions
pub mod Registers
pub mod Reads
pub mod Record
pub mod Kinds
pub mod Waiting
pub mod Writes
pub mod Modes
pub mod Bus
pub mod Flags
pub mod Refusals
pub mod Answers
pub mod Steps
pub mod Plan
pub mod Rules
pub mod Untouched
-- final statements
pub mod Hidden
-- nothing to believe: laws, and the code's own definitions
pub mod AnswerLaws
pub mod HiddenLaws
pub mod UnchangedLaws
pub mod UntouchedLaws
pub mod SendingLaws
pub mod KeptLinesLaws
pub mod LookedLaws
pub mod OpenFilterLaws
pub mod BusPlanLaws
