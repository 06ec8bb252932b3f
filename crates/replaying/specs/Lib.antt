-- definitions
pub mod Replay
pub mod Session
-- final statements
pub mod Runs
-- nothing to believe: laws, and the code's own definitions
pub mod WholeLaws
pub mod RunLaws
pub mod SentLaws
pub mod CodeLoop
pub mod LoopLaws
pub mod SessionLaws
