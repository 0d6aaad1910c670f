pub mod RowLaws
pub mod ByteLaws
pub mod Promises
pub mod Laws
pub mod Examples
