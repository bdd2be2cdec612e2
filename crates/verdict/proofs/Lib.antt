-- The laws that the crates above cite.
pub mod BitLaws
pub mod ListLaws
pub mod OrderLaws
pub mod PlaceLaws
pub mod Promises
pub mod WordLaws
mod MadeOf
mod Unique
