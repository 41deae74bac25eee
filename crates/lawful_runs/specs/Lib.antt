-- Which runs are lawful.
pub mod Accesses
pub mod BoardLaw
pub mod CallItems
pub mod Cells
pub mod DelayLaw
pub mod Items
pub mod LawfulRun
pub mod Logs
pub mod Stages
pub mod TouchLaw
