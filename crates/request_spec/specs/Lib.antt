pub mod Request
pub mod Decision
pub mod After
pub mod Meaning
pub mod Promises
pub mod Cases
pub mod Laws
