-- Sweeps of two lists of accesses.
pub mod Stands
pub mod Passings
pub mod Partners
