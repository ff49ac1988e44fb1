pub mod Ends
mod Hashed
pub mod Sayable
