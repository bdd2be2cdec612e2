-- The laws of the walk over the tables, that the tables spell the rules, and what the crates above cite.
pub mod Findings
mod WalkLaws
mod Spelling
mod GroupLaws
mod NoCfi
mod Unique
