-- A rank of a run as the engine keeps it, and what each of its steps does.
pub mod BoardAnswers
pub mod Courses
pub mod DataAnswers
pub mod Entering
pub mod KeptItems
pub mod Learning
pub mod Moves
pub mod RankStates
pub mod Refusals
pub mod Shares
pub mod Sound
