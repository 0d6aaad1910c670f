pub mod WalkLaws
pub mod EndLaws
pub mod PlaceLaws
pub mod Promises
