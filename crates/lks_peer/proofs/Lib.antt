pub mod Asking
pub mod Counting
pub mod Handing
pub mod Knowing
pub mod Listing
pub mod Pinning
pub mod Sending
pub mod Welling
