-- That the contract leaves one answer, and that the flags stand in the order of the codes.
mod Unique
mod ByStatus
pub mod InOrder
