pub mod Keys
pub mod Model
pub mod Kinds
pub mod Allowed
pub mod Value
pub mod Reader
pub mod View
