pub mod Picking
pub mod Places
