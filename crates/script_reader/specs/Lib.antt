-- What the parts of the reader give.
pub mod Beginnings
pub mod Lexing
pub mod Answers
pub mod Telling
pub mod Sound
pub mod Totals
pub mod Counted
pub mod Parsing
