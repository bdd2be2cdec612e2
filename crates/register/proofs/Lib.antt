-- The laws that the crates above cite.
pub mod Stores
pub mod Words
pub mod FrameLaws
pub mod WidthLaws
pub mod PairLaws
pub mod RowLaws
pub mod PutLaws
pub mod WriteLaws
pub mod TableLaws
pub mod ConversionLaws
mod Unique
