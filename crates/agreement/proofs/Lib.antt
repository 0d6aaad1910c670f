pub mod AdmitLaws
pub mod Promises
