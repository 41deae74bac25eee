-- Texts, and what is said of them.
pub mod Said
pub mod Texts
pub mod Faults
pub mod Limits
pub mod Tables
