pub mod Uuid
pub mod Version7
pub mod Promises
