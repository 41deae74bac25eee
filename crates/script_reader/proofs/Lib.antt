-- Lemmas on definitions, which the proofs of the reader cite.
pub mod Adding
pub mod CallsWritten
pub mod Charging
pub mod Cuts
pub mod Growing
pub mod Keeping
pub mod FormWords
pub mod LineRanges
pub mod Numbered
pub mod TextLines
pub mod TokenParts
pub mod TokenMembers
pub mod TokenRanges
