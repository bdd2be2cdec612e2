-- What the program prints, for a line and for the day's summary.
pub mod Printed
pub mod Report
