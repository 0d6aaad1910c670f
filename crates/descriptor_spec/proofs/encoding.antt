-- The deterministic encoding: names, modes, maps and bytewise order.
pub mod NameLaws
pub mod BitLaws
pub mod MapLaws
pub mod OrderLaws
