-- The cells of a line, and the places where they stand.
pub mod Cells
pub mod Split
pub mod Pass
pub mod Parted
