-- That touches keep the order of a run.
pub mod AgreementLaws
