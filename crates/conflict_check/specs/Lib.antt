-- Findings of accesses with their points.
pub mod Conflicts
pub mod Enough
pub mod Judgements
pub mod Listings
