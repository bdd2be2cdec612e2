-- The laws of identifiers.
pub mod WrittenLaws
pub mod RemainderLaws
pub mod CheckLaws
pub mod PartyLaws
pub mod PartyMeans
mod Unique
