-- Laws of the definitions.
pub mod EventLaws
