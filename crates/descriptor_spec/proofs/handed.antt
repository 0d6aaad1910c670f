-- What reading hands back, in numbers.
pub mod PartLaws
pub mod NumberLaws
pub mod BackLaws
pub mod FoundLaws
