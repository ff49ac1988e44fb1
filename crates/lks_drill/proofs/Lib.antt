pub mod Drawing
pub mod Good
pub mod Ranges
pub mod Sizes
