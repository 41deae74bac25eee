-- That touches keep the order of a run.
pub mod BoardItems
pub mod Marks
pub mod MarkMoves
pub mod MarkedLives
pub mod OneEdge
pub mod Splits
pub mod Agreement
