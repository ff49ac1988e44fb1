pub mod Parts
pub mod Laws
pub mod Lengths
pub mod Within
