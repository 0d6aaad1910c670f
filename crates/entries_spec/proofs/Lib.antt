pub mod ValueBounds
pub mod ValueLaws
pub mod PairLaws
pub mod OptionalLaws
pub mod SignatureLaws
pub mod FixedLaws
