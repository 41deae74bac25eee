-- The words of the command line.
pub mod Values
pub mod WorkedWords
pub mod Words
