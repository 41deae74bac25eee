-- A rank that takes steps at a board.
pub mod Seated
