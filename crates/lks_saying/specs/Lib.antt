pub mod Bytes
pub mod Sayings
