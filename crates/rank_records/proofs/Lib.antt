-- The replay of a log: which calls a rank accepted, what the tables stand for, and what is kept.
pub mod Accepted
pub mod Locked
pub mod Taught
pub mod Keeping
pub mod KeptEntries
pub mod WholeLogs
