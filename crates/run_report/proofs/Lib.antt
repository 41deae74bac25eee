-- Lemmas on lists, on chains, and on the lines about calls.
pub mod Lists
pub mod Links
pub mod Walks
pub mod Asked
pub mod Lines
