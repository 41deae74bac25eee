-- What the folds of updates ask, and lists that are gone through.
pub mod Fitting
pub mod Making
pub mod Naming
pub mod Reading
pub mod SmallCells
pub mod Steps
