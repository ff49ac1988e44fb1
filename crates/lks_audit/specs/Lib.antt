pub mod Copied
pub mod Counted
pub mod Kept
pub mod Seen
pub mod Tallying
