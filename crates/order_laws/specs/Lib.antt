-- Laws of the order of a run, of its vector clocks and of its findings.
pub mod ClockLaws
pub mod FindingLaws
pub mod OrderLaws
