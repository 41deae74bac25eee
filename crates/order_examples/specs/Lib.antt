-- The findings, points and ordered reads of small runs.
pub mod Deliveries
pub mod Exchanges
pub mod Judged
pub mod Locks
pub mod Points
pub mod Posts
pub mod Requests
