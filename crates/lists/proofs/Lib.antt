-- The laws that the crates above cite.
pub mod RowLaws
pub mod SomeLaws
pub mod FrameLaws
pub mod CfiLaws
mod ScanLaws
mod PassLaws
mod Unique
