-- final statements
pub mod Runs
-- nothing to believe: laws
pub mod RunLaws
mod PutLaws
