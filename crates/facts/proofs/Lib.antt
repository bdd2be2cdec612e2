-- Laws of the good cells, of what is asked, and of how a pair stands.
mod GoodCells
pub mod FromAsked
pub mod PartyLei
pub mod Registers
mod Unique
