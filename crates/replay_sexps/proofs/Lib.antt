pub mod CaseLaws
pub mod Comparing
