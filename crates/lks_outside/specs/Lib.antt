pub mod Bells
pub mod Counts
pub mod Fakes
pub mod Scripted
pub mod Streams
pub mod Turns
pub mod Verdicts
