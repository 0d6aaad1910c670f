-- Where the parts of a descriptor stand in its encoding, and its grants one after the other.
pub mod SeenLaws
pub mod PlaceLaws
pub mod TurnLaws
pub mod EndLaws
