-- The touches of a run as the code keeps them.
pub mod Kept
