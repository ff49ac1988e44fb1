pub mod Checking
pub mod Counted
pub mod Kinds
pub mod Notes
pub mod Quorums
pub mod Sizes
pub mod Steps
