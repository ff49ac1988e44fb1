pub mod Framed
pub mod Sets
pub mod Texts
pub mod Worlds
