pub mod Admitting
pub mod Keyed
pub mod Lasting
pub mod Marking
pub mod Pools
pub mod Sending
