-- Proofs of the code of this crate.
pub mod Accepted
pub mod Alone
pub mod FoundWindows
pub mod Indexes
pub mod Inserted
pub mod RangeTests
pub mod RoundsMade
pub mod Searches
