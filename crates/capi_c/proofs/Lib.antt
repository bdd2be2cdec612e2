-- What the exported functions promise is what those of capi do, and leaves nothing open.
pub mod SameContract
mod Unique
