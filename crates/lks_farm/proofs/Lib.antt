pub mod Batching
pub mod Closing
pub mod Gathering
pub mod Holding
pub mod Moves
pub mod Orders
pub mod Piling
pub mod Seating
