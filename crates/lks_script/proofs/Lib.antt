pub mod Lines
pub mod Which
pub mod Sound
