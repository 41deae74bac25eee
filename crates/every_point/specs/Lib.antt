-- The points of one access.
pub mod Edges
pub mod Points
