pub mod Files
pub mod Mem
pub mod Opening
