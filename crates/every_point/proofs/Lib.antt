-- Edges from one entry, and the points of one access.
pub mod Leads
pub mod Marked
pub mod Named
pub mod PointsKept
pub mod Replaying
