-- The theorem of the day's summary, and that it bites.
mod Lists
mod Numbers
mod Seats
mod Kept
mod Same
mod Agreement
pub mod Summary
pub mod Teeth
