-- Laws of items, baskets and legs; and that the definitions take exactly the texts of the grammar.
pub mod ItemLaws
pub mod BasketLaws
pub mod LegLaws
pub mod FrontLaws
pub mod GrammarItems
pub mod GrammarBaskets
pub mod GrammarLegs
pub mod GrammarLaws
mod Unique
