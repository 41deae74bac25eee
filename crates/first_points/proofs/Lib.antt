-- Points that stand for others, and the steps at which they are found.
pub mod DoneParts
pub mod Finds
pub mod KeptParts
pub mod KeySteps
pub mod Parted
pub mod Picked
pub mod RankSteps
pub mod SoughtSteps
pub mod Stands
pub mod TableSteps
pub mod VisibleParts
