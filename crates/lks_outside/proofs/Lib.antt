mod Progress
pub mod Ringing
