-- The three conditions, a page each, of calls of `judge`; and an afternoon of one firm.
pub mod Condition1
pub mod Condition2
pub mod Condition3
pub mod Afternoon
