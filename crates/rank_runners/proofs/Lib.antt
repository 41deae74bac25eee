-- Lemmas on schedules, on the steps of ranks, and on the beginning and the end of a run.
pub mod Numbers
pub mod Sets
pub mod Picks
pub mod Onward
pub mod OneStep
pub mod Turned
pub mod TurnSteps
pub mod WholeTurns
pub mod NextRanks
pub mod Drained
pub mod FirstWorlds
pub mod LastWorlds
