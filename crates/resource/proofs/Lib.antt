pub mod FormCode
pub mod FollowCode
pub mod TextCode
pub mod FirstLevelLaws
pub mod NameFirstCode
pub mod LevelsCode
pub mod CopyLaws
pub mod Laws
