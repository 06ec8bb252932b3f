-- final statements
pub mod OpenFilters
-- nothing to believe: laws
pub mod BusPlanLaws
pub mod KeptLinesLaws
pub mod LookedLaws
pub mod SendingLaws
pub mod UnchangedLaws
pub mod UntouchedLaws
