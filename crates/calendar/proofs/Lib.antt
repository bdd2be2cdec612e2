-- The laws of days and moments.
pub mod Calendar
pub mod Elapsed
pub mod Real
pub mod DayNumber
pub mod Sums
pub mod FiveYears
pub mod FiveYearsDays
pub mod PlaceLaws
pub mod CellRuns
pub mod MomentLaws
pub mod Options
mod Unique
