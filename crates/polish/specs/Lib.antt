-- Polish identifiers: PESEL and NIP, the birth day in a PESEL, and what a cell that holds one gives.
pub mod Numbers
pub mod Birth
pub mod Cells
