-- Texts in UTF-8: the syntax by which the bytes are read, and what they mean.
pub mod Abnf
pub mod Rfc3629
