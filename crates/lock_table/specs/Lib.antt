-- What a table of locks shows of itself.
pub mod HeldLocks
