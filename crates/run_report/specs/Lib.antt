-- The parts of the text that the code writes, and what it counts.
pub mod Counts
pub mod Chains
pub mod Parts
