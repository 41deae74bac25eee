-- The memory that a script asks for, and what a transfer does to an element of it.
pub mod Elements
pub mod Layout
pub mod Numbers
pub mod Pieces
pub mod Ranks
pub mod Sameness
pub mod Text
pub mod Touches
pub mod Transfers
pub mod WellFormed
