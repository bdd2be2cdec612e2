-- The answers of the step that asks the lists.
pub mod PartyLei
mod Unique
