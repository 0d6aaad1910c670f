pub mod GrantBounds
pub mod PayloadBounds
