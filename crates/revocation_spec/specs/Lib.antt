pub mod Revocation
pub mod Promises
pub mod Laws
