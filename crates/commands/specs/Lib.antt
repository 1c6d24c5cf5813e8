pub mod Counters
pub mod Ready
pub mod Records
pub mod Refusals
pub mod Waiting
pub mod Words
