-- Laws of the order of a run.
pub mod Ascending
pub mod Decide
pub mod Delays
pub mod Edges
pub mod Events
pub mod OneList
pub mod Order
pub mod Pairs
pub mod Stamps
