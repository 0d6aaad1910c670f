pub mod OrderLaws
pub mod Laws
pub mod Promises
