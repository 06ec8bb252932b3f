-- final statements
pub mod Reachable
pub mod Examined
pub mod Released
-- nothing to believe: laws
pub mod KeptLockLaws
pub mod KeptModeLaws
pub mod KeptRegisterLaws
pub mod KeptContentsLaws
pub mod KeptPlaceLaws
pub mod KeptSoundLaws
pub mod ReachableLaws
pub mod SlotLaws
pub mod StillWaitingLaws
pub mod ReleasedLaws
pub mod DeliveredLaws
