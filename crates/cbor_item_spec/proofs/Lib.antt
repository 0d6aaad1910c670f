pub mod Utf8Laws
pub mod Utf8Exact
pub mod HeadLaws
pub mod EndLaws
pub mod ShortestLaws
pub mod ItemLaws
pub mod Promises
pub mod Laws
