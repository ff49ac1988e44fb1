pub mod Kept
pub mod Sendable
pub mod Working
