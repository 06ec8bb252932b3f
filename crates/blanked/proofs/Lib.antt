-- final statements
pub mod Reports
pub mod Blanked
-- nothing to believe: laws
pub mod AlikeLaws
pub mod EntryLaws
pub mod HidingLaws
pub mod BlankedLaws
