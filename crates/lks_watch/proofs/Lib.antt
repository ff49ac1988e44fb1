pub mod Going
pub mod Noted
