-- The three conditions of calls of `judge`, and that they bite.
pub mod LineLaws
pub mod FoundLaws
mod TableLaws
mod Kept
pub mod CallLaws
pub mod Condition1
pub mod Condition2
pub mod Condition3
pub mod Contract
pub mod Teeth
pub mod Afternoon
