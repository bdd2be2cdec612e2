-- The register of the paper: its head, the bytes of a pair, its rows, what is written, and the conversion from version 1 to 2.
pub mod Frame
pub mod Pair
pub mod Rows
pub mod Written
pub mod Table
pub mod Conversion
pub mod Refused
