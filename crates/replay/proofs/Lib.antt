-- The laws behind the program's proofs.
mod NumberLaws
mod ResultLaws
