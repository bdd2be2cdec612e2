-- The table of the day's summary by rows, and a line noted in it.
pub mod Rows
pub mod Noted
