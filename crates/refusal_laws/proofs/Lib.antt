-- Theorems on refused calls.
pub mod CallItems
pub mod Members
pub mod Refusals
