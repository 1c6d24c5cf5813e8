pub mod Deciding
pub mod Holding
