pub mod Each
pub mod Pins
pub mod Places
pub mod Shelf
pub mod Whole
