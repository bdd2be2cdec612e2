-- The laws behind what is printed; those of length and of rows serve the program.
pub mod DecimalLaws
mod LentLaws
mod OrderLaws
mod ReportLaws
pub mod RowLaws
mod Unique
