-- The laws that the crates above cite.
pub mod KeptLaws
pub mod TextLaws
mod Unique
