pub mod GreaterFronts
pub mod Patterns
pub mod PlainUpdates
