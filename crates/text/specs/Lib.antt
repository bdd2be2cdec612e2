-- The words of the paper for bytes: classes, words, shapes, numbers.
pub mod Ascii
pub mod Class
pub mod Word
pub mod Shape
pub mod Number
pub mod FirstFrom
pub mod Stride
