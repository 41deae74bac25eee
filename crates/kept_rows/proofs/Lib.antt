-- That entries without the values of their calls are enough.
pub mod GiftLaws
pub mod KeptActs
pub mod KeptAnswers
pub mod KeptEdges
pub mod KeptGains
pub mod KeptRowLawLaws
