-- From the refusals' tests and the callees' answers to the outcome of a call, and the contract in names.
pub mod Firsts
pub mod FlagLaws
pub mod Cases
mod Ways
pub mod Unasked
pub mod Contract
mod Unique
