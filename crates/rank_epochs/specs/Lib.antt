-- What contracts see of a rank's epochs.
pub mod Accepted
pub mod Distinct
pub mod Views
