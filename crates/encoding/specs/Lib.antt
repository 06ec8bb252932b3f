-- definitions
pub mod Calls
pub mod Answers
pub mod Bytes
pub mod Shown
-- final statements
pub mod Apart
-- nothing to believe: laws, and the code's own definitions
pub mod AnswerLaws
pub mod ByteListLaws
pub mod ByteRuleLaws
pub mod ByteSessionLaws
pub mod Code
