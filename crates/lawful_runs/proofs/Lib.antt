-- Laws of the definitions.
pub mod ItemLaws
pub mod LogLaws
pub mod PairLaws
pub mod TouchLaws
