-- The proofs.
pub mod Owned
pub mod Starts
pub mod Learnt
pub mod Looked
pub mod Stepped
pub mod Turns
pub mod Lived
