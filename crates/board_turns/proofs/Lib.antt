-- What the answers of the turn lock say of seats at a board.
mod ClosedSeats
mod Lists
mod NewSeats
mod Places
