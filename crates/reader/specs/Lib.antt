-- Reading the cells of a line one after another.
pub mod Reading
