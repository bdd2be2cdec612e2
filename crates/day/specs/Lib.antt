-- The day's summary by firm, over any sequence of lines.
pub mod Counts
pub mod Summary
