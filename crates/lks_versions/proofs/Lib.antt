pub mod Kept
pub mod PinLaws
pub mod Replaced
pub mod Wholes
