pub mod Steps
pub mod Scripts
pub mod Said
