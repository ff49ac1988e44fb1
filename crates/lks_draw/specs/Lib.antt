pub mod Picks
pub mod Words
