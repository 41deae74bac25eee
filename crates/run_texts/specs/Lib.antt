-- The report on a run, and the exit status.
pub mod Answers
pub mod Report
pub mod Status
