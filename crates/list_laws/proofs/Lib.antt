-- Laws of lists and numbers.
pub mod Each
pub mod Lists
pub mod Members
pub mod Numbers
pub mod Options
pub mod Tests
pub mod Truths
