-- The touches that an access asks for, and what making them does.
pub mod Plans
pub mod TouchesMade
