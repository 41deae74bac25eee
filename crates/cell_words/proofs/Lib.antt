-- That each step keeps the rule of the cells, and what the rule says at the end.
mod Totals
mod Elements
mod Growth
mod WordParts
mod Keeping
mod Updating
mod Opening
mod Ending
mod StepsKept
mod SeatFaces
pub mod Names
