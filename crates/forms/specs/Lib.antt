-- The forms of the 65 cells, what a line needs, and the findings 1001 to 1065.
pub mod Forms
pub mod Needs
pub mod Findings
pub mod Read
