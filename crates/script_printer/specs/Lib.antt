-- What is printed of a line.
pub mod Printing
