pub mod Laws
pub mod Members
pub mod Running
pub mod Soundness
