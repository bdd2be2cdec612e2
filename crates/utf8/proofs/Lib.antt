-- The meaning of a count, and the laws of the syntax.
mod Laws
pub mod Means
mod Unique
