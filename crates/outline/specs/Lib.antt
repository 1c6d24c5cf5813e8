pub mod Outline
pub mod Index
pub mod Shape
pub mod Listing
pub mod Page
pub mod PageWork
