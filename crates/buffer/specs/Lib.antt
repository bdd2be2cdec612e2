-- A buffer that is filled from its start.
pub mod Kept
pub mod Text
