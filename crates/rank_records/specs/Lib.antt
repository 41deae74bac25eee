-- What the ranks of a run knew, as the code keeps it.
pub mod Deeds
pub mod Kept
pub mod Records
pub mod Tables
