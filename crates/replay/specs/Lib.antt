-- The words of the program: numbers in bytes, the result of a case.
pub mod Numbers
pub mod Results
