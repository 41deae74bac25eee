-- What the theorems say.
pub mod Drained
pub mod Ends
pub mod Inside
pub mod Rooms
