pub mod Names
pub mod Compare
pub mod Maps
pub mod Segments
pub mod Refusals
pub mod CallAnswer
