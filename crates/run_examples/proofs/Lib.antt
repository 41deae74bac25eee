-- Lemmas of the laws.
pub mod EachElement
