pub mod EntryLaws
pub mod Joins
pub mod Listings
pub mod PlainFields
pub mod KnownMarks
pub mod EnteredLaws
pub mod ReachedLaws
pub mod IndexLaws
pub mod OutlineBytes
pub mod ShapedTrees
pub mod Listed
pub mod Lines
pub mod Characters
pub mod NamePlaces
pub mod Drawn
pub mod PageLaws
pub mod PageCall
mod PageCases
