-- Lemmas of the queue.
pub mod FirstFound
pub mod GivenWays
pub mod Joined
pub mod LinksKept
pub mod NumberBits
pub mod TouchCounts
