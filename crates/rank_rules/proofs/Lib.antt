-- Proofs of the code of this crate.
pub mod ClassLaws
pub mod KnowledgeLaws
pub mod PendingLaws
pub mod WindowLaws
