-- Theorems over the delay, and the whole law.
pub mod Ascending
pub mod DelayLaws
pub mod Due
pub mod DueDeliveries
pub mod DueKept
pub mod DueMoves
pub mod Lawful
pub mod NextItems
pub mod PendingElements
pub mod Unfinished
