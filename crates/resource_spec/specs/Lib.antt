pub mod Characters
pub mod Identifier
pub mod Level
pub mod Pattern
pub mod Text
pub mod Cover
pub mod Promises
pub mod Laws
