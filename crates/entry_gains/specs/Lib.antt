-- What entries gain.
pub mod ByPlace
pub mod Deeds
pub mod Gains
pub mod Given
pub mod Kept
pub mod Ledgers
pub mod Plans
pub mod Slots
pub mod Tables
