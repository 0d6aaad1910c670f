pub mod Order
pub mod Key
pub mod Promises
pub mod Laws
