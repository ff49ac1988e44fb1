pub mod Alarms
pub mod Scans
pub mod Summary
pub mod Text
pub mod Words
