-- What each call is, and the tables of datatypes, operations, error classes and call words.
pub mod Actions
pub mod CallWords
pub mod Classes
pub mod Datatypes
pub mod KeptCalls
