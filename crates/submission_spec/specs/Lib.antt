pub mod Submission
pub mod Promises
pub mod Laws
