-- The history of a rank that shares the board and the cells with others, and the run that such histories are.
pub mod Among
pub mod Partly
pub mod Recorded
pub mod Ends
