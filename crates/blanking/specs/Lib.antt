-- definitions
pub mod Session
-- nothing to believe: laws, and the code's own definitions
pub mod WholeLaws
pub mod RunLaws
pub mod SessionLaws
pub mod Code
