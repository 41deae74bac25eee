-- Runs put together from histories, and what the theorems say of them.
pub mod Assembled
pub mod CellHistories
pub mod Deliveries
pub mod Fronts
pub mod Lawful
pub mod Lives
