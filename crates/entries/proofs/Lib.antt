pub mod Laws
pub mod ValueCode
pub mod SignatureCode
