-- What the board answers an entry after the entries before it, and what each entry comes after.
pub mod AttachedRanges
pub mod Board
pub mod Edges
pub mod Entries
pub mod Locks
pub mod Posts
pub mod Questions
pub mod Rounds
pub mod Shapes
