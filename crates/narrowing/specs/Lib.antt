pub mod Range
pub mod Code
