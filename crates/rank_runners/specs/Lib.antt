-- The parts of a run on one thread as the code keeps them.
pub mod RankSets
pub mod Marks
pub mod Runs
pub mod Steps
