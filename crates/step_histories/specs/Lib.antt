-- What the theorems say.
pub mod Assembled
pub mod LogTouches
