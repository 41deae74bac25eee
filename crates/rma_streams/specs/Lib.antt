-- The words of sources and sinks: counts of faults, the end of an input, bytes that move, and what the streams hold.
pub mod Faults
pub mod Ends
pub mod Moves
pub mod Memory
pub mod System
