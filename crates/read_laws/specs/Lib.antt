-- What gets and loads read.
pub mod ReadLaws
