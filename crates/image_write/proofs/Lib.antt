pub mod NewCode
pub mod GrowCode
pub mod TouchCode
pub mod CopyCode
