pub mod Meaning
pub mod Escape
pub mod Narrow
pub mod Promises
pub mod Laws
pub mod Cases
