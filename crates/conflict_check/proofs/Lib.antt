-- Findings by sweeps.
pub mod Alikes
pub mod Classes
pub mod Common
pub mod Growth
pub mod Ordinals
pub mod Parts
pub mod Readings
pub mod Leasts
pub mod WithoutFindings
