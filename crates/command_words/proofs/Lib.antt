-- Proofs of the words of the command line.
mod Matches
mod WorkedWords
