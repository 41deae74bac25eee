-- What a turn round a board and its seats are, as plain data.
pub mod Places
pub mod Seats
