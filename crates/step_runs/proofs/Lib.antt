-- Laws of the definitions.
pub mod DataStepLaws
