pub mod StateCode
pub mod RowCode
pub mod IdCode
