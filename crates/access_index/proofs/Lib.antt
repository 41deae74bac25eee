-- Tables of accesses.
pub mod Rises
pub mod Puts
pub mod Sames
pub mod Sounds
pub mod Blocks
