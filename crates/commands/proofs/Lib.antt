pub mod Counters
pub mod Given
pub mod Readiness
pub mod Records
pub mod Waiting
pub mod Words
