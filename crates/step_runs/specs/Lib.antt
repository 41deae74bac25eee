-- The run of a script on one thread.
pub mod Agents
pub mod BoardSteps
pub mod DataSteps
pub mod Generator
pub mod Schedules
pub mod StepRun
