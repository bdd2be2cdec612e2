-- The words of the paper for cells 47 and 49: items, baskets, legs.
pub mod Items
pub mod Legs
pub mod Underlying
pub mod Grammar
pub mod Told
