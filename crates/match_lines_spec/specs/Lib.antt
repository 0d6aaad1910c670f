pub mod Lines
pub mod Block
pub mod Promises
pub mod Laws
