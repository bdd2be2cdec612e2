-- What the C functions promise: what `judge` and `convert` do, and of the day's table what `note_of` says; which leaves nothing open.
mod PlainCall
pub mod SameContract
pub mod Unique
