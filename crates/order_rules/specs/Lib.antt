-- The order of a run, and which pairs of accesses it leaves forbidden.
pub mod Before
pub mod CallSteps
pub mod DonePoints
pub mod Findings
pub mod Ordered
pub mod OrderedReads
pub mod Roles
pub mod Rules
pub mod VisiblePoints
