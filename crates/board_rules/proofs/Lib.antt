-- Laws of the definitions.
pub mod CollectiveLaws
pub mod DecisionLaws
pub mod EntryLaws
pub mod LockLaws
pub mod PostLaws
