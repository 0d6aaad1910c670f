pub mod RoomCode
pub mod GrantCode
pub mod UnderCode
pub mod PayloadCode
pub mod ReadCode
