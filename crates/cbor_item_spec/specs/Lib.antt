pub mod Encoding
pub mod Unicode
pub mod Utf8
pub mod Head
pub mod Item
pub mod Promises
pub mod Laws
