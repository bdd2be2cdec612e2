-- The rules of the paper in its own words, and the facts that the engine works out for them.
pub mod Call
pub mod Words
pub mod Rules
pub mod Asked
pub mod Facts
