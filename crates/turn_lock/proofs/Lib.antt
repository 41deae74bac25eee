-- Lemmas over plain lists, for the steps of the table.
mod Totals
mod Entries
mod Moves
mod Seating
mod SeatLists
mod Ending
