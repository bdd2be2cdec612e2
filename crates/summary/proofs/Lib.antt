-- The laws that the crates above cite.
pub mod RaiseLaws
pub mod CountLaws
pub mod NameLaws
pub mod SearchLaws
pub mod Unique
