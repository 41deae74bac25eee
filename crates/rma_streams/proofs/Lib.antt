-- Lemmas on bytes that move.
pub mod MoveLemmas
