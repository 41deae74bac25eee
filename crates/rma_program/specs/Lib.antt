-- What the top calls answer, and what they write.
pub mod Answers
pub mod Headline
pub mod Inputs
pub mod Lines
pub mod Outputs
pub mod Statuses
pub mod Tops
pub mod Words
