-- Clocks, and which names they put in order.
pub mod Marks
pub mod Numbers
pub mod Places
pub mod Replays
pub mod Rows
