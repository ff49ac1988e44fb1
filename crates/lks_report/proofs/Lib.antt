mod Begun
mod Numbered
pub mod Told
