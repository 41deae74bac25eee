-- What follows from how the top call ends, and of texts.
pub mod Ending
pub mod Points
pub mod Texts
pub mod StepMode
