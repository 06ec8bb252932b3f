-- final statements
pub mod Demand3
pub mod Runs
pub mod NoOldBytes
-- nothing to believe: laws
pub mod RegisterLaws
pub mod EventLaws
pub mod AccessLaws
pub mod BufferBytesLaws
pub mod CodeLaws
pub mod ViewLaws
