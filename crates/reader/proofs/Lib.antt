-- The law of the reader, and that its contracts determine its answers.
pub mod ReadingLaws
mod Unique
