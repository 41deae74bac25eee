-- The canonical text, from tokens to the whole text.
pub mod Words
