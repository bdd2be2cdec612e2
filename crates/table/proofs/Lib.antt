-- That a line noted is one record put back, and that each contract determines its answer.
pub mod NoteLaws
mod Unique
