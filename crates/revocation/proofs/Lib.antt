pub mod RevocationCode
