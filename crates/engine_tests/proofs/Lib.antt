-- The proofs.
pub mod KeptSeats
pub mod LastTwo
