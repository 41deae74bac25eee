-- What a queue of pending accesses is.
pub mod Blocks
pub mod Marked
pub mod Queues
pub mod Soughts
pub mod Spanned
pub mod Walked
