pub mod Batches
pub mod Entries
pub mod Ends
pub mod Piles
pub mod Seats
pub mod Sharing
