-- The accesses of a run by the memory that they reach.
pub mod Regions
pub mod Lists
pub mod Indexes
