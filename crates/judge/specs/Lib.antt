-- One line judged: the refusals, the outcome, and the contract that says all of it.
pub mod Refusal
pub mod Outcome
pub mod Answer
