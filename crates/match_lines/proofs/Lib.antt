pub mod LineCode
