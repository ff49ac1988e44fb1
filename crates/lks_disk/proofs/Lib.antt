mod Counting
mod Garbled
mod Images
mod Passing
pub mod Runs
pub mod TornWrites
