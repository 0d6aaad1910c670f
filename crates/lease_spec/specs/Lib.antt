pub mod Lease
pub mod Table
pub mod Promises
pub mod Cases
pub mod Laws
