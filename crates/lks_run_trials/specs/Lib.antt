pub mod Opened
pub mod Pair
