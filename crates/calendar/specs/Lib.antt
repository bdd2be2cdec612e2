-- Days and moments as the paper has them.
pub mod Day
pub mod Dates
pub mod Places
pub mod Moments
