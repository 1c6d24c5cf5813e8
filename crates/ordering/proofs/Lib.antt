pub mod OrderAnswers
pub mod Bits
mod Bodies
pub mod Bound
pub mod Collected
mod EntryLaws
mod Examples
pub mod Few
mod Lists
pub mod Loop
mod NeedLaws
pub mod OrderLaws
mod Pass
mod Patterns
mod Provided
pub mod Rounds
mod Rows
pub mod Scope
mod Search
mod Several
mod Sexps
mod Swap
mod Tests
pub mod Toposort
mod Turned
mod InRounds
