-- definitions
pub mod Blank
pub mod Entries
pub mod Alike
-- nothing to believe: laws, and the code's own definitions
pub mod EntryLaws
pub mod AlikeLaws
pub mod HidingLaws
pub mod BlankedLaws
pub mod JoinedLaws
pub mod DigitLaws
pub mod StepTextLaws
pub mod FrameTextLaws
pub mod TextReadLaws
