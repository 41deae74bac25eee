-- Clocks keep their laws.

pub mod Asks
pub mod Chains
pub mod Coming
pub mod Entered
pub mod FewEntries
pub mod Gains
pub mod Greater
pub mod Judged
pub mod KeptPlaces
pub mod Laws
pub mod Lists
pub mod Nexts
pub mod Orders
pub mod Placings
pub mod Replaying
pub mod Rows
pub mod Searches
pub mod Sorted
pub mod Steps
