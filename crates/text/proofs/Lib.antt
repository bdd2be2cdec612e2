-- The laws that the crates above cite.
pub mod Bools
pub mod Lists
pub mod ClassLaws
pub mod WordLaws
pub mod RunLaws
pub mod NumberLaws
pub mod ByteLaws
pub mod LoadLaws
pub mod FirstFrom
pub mod Fill
pub mod Determined
mod Unique
