pub mod CloseCode
pub mod ChooseCode
pub mod RoomCode
