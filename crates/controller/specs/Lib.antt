-- definitions
pub mod Carry
pub mod Session
pub mod Calls
pub mod View
pub mod BufferBytes
pub mod Runs
-- final statements
pub mod Unchanged
pub mod Untouched
pub mod NoOldBytes
pub mod Looked
-- nothing to believe: laws, and the code's own definitions
pub mod ViewLaws
pub mod RunLaws
pub mod UnchangedLaws
pub mod UntouchedLaws
pub mod KeptLinesLaws
pub mod LookedLaws
pub mod RowLaws
pub mod Code
pub mod CodeLaws
pub mod AccessLaws
pub mod BufferBytesLaws
