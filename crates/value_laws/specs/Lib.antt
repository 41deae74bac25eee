-- What gets and loads read in the runs that are made.
pub mod ValueLaws
