-- Loops over the entries of a board.
pub mod WholeParts
