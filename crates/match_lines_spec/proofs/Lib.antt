pub mod BlockLaws
pub mod VerdictLaws
pub mod InputLaws
pub mod Laws
pub mod Promises
