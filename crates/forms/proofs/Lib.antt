-- Laws of the findings, cell by cell.
pub mod FindingLaws
pub mod StatusLaws
mod ReadLaws
mod Unique
