-- The words of the paper for identifiers: LEI, ISIN, MIC, persons, and the party that a cell names.
pub mod Written
pub mod Codes
pub mod Person
pub mod Party
pub mod Carried
