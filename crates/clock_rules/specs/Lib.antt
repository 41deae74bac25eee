-- Vector clocks, whose numbers decide the order of a run.
pub mod Clocks
