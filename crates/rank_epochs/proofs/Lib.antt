-- Proofs of the code of this crate.
pub mod DistinctRanks
pub mod AcceptedGroups
