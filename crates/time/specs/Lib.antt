pub mod Time
pub mod Promises
pub mod Laws
