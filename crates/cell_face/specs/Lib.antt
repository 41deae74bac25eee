-- What a memory of cells shows of itself, and what its calls do to that.
pub mod Faces
pub mod Fronts
pub mod PlainCells
