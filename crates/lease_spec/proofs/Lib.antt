pub mod MarginLaws
pub mod StateLaws
pub mod RowLaws
pub mod TableLaws
pub mod Promises
pub mod Laws
pub mod Cases
