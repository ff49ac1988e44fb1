pub mod Parts
pub mod Headings
pub mod Laws
pub mod Sizes
