pub mod Reads
pub mod Holds
pub mod Answer
