pub mod RowsCode
pub mod SlotCode
pub mod CheckCode
