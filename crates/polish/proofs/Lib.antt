-- Laws of the check digits, of the birth day and of what a cell gives, and that each contract leaves one answer.
pub mod NumberLaws
pub mod CenturyLaws
pub mod RowLaws
pub mod BirthLaws
pub mod CellLaws
mod Unique
