-- The canonical text of a script is read again, from tokens to the whole text.
pub mod Blocks
pub mod CallLines
pub mod Lines
pub mod Names
pub mod Numbers
pub mod Places
pub mod Readings
pub mod Spaces
pub mod Tokens
pub mod Totals
pub mod Words
