pub mod OctetLaws
pub mod DigitLaws
pub mod SpellLaws
pub mod TextLaws
pub mod Promises
