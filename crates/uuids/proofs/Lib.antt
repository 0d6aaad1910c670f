pub mod UuidCode
