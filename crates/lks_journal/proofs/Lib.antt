pub mod Adds
pub mod Appends
pub mod Bodies
