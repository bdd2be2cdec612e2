-- Laws of the cells, and of the tables that a split line has.
pub mod CellLaws
pub mod Tables
mod PassLaws
mod Unique
