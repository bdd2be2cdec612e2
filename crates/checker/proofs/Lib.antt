-- The laws behind the program's proofs.
mod BareLaws
mod LineEndLaws
mod AnswerLaws
mod ProgressLaws
mod Enough
mod TableLaws
mod Program
mod Day
mod Example
mod Setting
