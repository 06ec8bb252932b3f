-- definitions
pub mod Lines
pub mod Feed
pub mod Feeding
-- nothing to believe: laws, and the code's own definitions
pub mod FeedLaws
pub mod HoldLaws
pub mod WholeLaws
pub mod PartLaws
pub mod CodeGather
pub mod GatherLaws
pub mod TakenLaws
pub mod FeedingLaws
