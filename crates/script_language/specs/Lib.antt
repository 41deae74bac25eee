-- The script language: how a text is read, and the one canonical text of a script.
pub mod Answers
pub mod Lines
pub mod Words
pub mod Integers
pub mod Forms
pub mod Calls
pub mod Drafts
pub mod Tokens
pub mod Spelling
pub mod Reading
pub mod Canon
