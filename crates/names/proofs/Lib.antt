pub mod CallAnswers
pub mod Compare
mod CompareCases
pub mod Digits
pub mod Fields
pub mod Frames
pub mod Gensym
pub mod Maps
pub mod Numbers
pub mod Order
pub mod Parts
pub mod Places
pub mod Same
pub mod Segments
