-- Theorems over the items of calls.
pub mod BegunWindows
pub mod CallLaws
pub mod CallMoves
pub mod FirstEntries
pub mod KnownMoves
pub mod LeavingCreations
pub mod Standing
pub mod Stopping
pub mod Teaching
