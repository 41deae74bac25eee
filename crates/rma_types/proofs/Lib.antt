-- Laws of the definitions.
pub mod ActionLaws
pub mod CallLaws
pub mod ClassLaws
pub mod MemoryLaws
