-- What the theorem says.
pub mod Calls
