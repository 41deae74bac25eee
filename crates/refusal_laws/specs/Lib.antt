-- Laws of refused calls.
pub mod RefusalLaws
