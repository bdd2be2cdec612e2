-- The laws of decimals, and what their specification comes to.
pub mod ValueLaws
pub mod LastZeros
pub mod DecimalLaws
pub mod SignLaws
pub mod Shape
pub mod OneForm
pub mod Ends
mod Unique
