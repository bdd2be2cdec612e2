-- The words of the paper for amounts: the decimal form, its sign, prices, quantities.
pub mod Decimal
pub mod Signed
pub mod Price
pub mod Quantity
pub mod Told
