-- The words of cells, their histories, and what each step does.
pub mod Words
pub mod Histories
pub mod Views
pub mod Rule
pub mod Steps
pub mod Holders
pub mod Closings
