pub mod Counting
pub mod Hashes
pub mod Running
