pub mod SubmitCode
pub mod ChoiceLaws
pub mod SubmitLaws
