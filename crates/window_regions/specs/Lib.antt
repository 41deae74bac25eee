-- What the code of this crate keeps of a rank's ranges.
pub mod Ascending
pub mod Indexed
pub mod Places
pub mod RoundsMade
pub mod Shapes
