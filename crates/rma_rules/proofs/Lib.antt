-- The numbers of windows.
pub mod Names
