pub mod ReadsLaws
pub mod OptionalLaws
pub mod CountedLaws
pub mod HoldsLaws
