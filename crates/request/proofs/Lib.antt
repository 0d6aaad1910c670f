pub mod SearchCode
pub mod ArgumentCode
pub mod LeasedCode
pub mod DecideCode
pub mod ExamineCode
pub mod AfterCode
