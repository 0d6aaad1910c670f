pub mod Bytes
pub mod Span
pub mod Order
pub mod Number
pub mod Write
pub mod Scan
