-- A rank that shares the board and the cells with others: what it is between two of its steps, and after its last one.
pub mod Standings
pub mod Ranks
pub mod Drains
