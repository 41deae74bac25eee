-- The judgement of a pair of accesses, in the words of the code.
pub mod Same
pub mod WindowNumbers
