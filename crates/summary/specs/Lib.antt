-- The day's summary by firm: what a line adds to a record, what of a line is counted, and where.
pub mod Counting
pub mod Judged
pub mod Noting
