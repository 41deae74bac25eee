-- Scripts with the reports of their runs, and laws of the definitions, one file a subject.
pub mod CellLaws
pub mod Deliveries
pub mod Elements
pub mod Epochs
pub mod Exchanges
pub mod Fences
pub mod Locks
pub mod Posts
pub mod Regions
pub mod Scripts
pub mod Standing
