pub mod Decimals
pub mod Digits
pub mod Each
pub mod Kept
pub mod Operands
pub mod Splits
pub mod Steps
