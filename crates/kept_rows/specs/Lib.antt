-- What the board keeps of its entries.
pub mod Gifts
pub mod KeptCalls
pub mod KeptRowLaws
