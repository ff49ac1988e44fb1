mod Going
pub mod Passing
