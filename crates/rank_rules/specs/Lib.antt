-- What a rank knows of its windows, epochs and requests, and which calls it refuses.
pub mod Classes
pub mod Courses
pub mod Epochs
pub mod EpochTests
pub mod Knowledge
pub mod Pending
pub mod Ranges
pub mod Requests
pub mod Windows
pub mod WindowTests
