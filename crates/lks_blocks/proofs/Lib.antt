pub mod Bytes
pub mod Indexes
