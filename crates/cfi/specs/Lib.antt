-- The rules by CFI, and how the constants of the code spell them.
pub mod Rules
pub mod Table
