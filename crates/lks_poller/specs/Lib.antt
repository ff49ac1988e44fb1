pub mod Polling
pub mod Rules
pub mod Running
pub mod Shown
pub mod Sound
