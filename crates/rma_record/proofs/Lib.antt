-- Laws of the definitions.
pub mod ItemLaws
