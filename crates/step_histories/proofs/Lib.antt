-- The proofs.
mod CellGrowth
pub mod LogGrowth
mod Deliveries
pub mod PlainMoves
pub mod Waits
pub mod AllTouches
mod Living
mod Turns
mod Draining
pub mod Assembled
