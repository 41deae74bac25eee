-- Accesses with their points.
pub mod Alike
pub mod KeptPoints
pub mod Keys
pub mod Tables
