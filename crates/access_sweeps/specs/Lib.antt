-- Sweeps of two lists of accesses.
pub mod Labels
pub mod Places
pub mod Sweeps
