-- The five lists: their table, their frame, their rows, and what is asked of them.
pub mod Table
pub mod Frame
pub mod Rows
pub mod Row
pub mod Lookups
pub mod Questions
