pub mod RankMasks
pub mod TargetLocks
pub mod TableLocks
pub mod Exclusion
