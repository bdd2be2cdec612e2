-- The words of the program: the setting that it judges in, the lines of an input, what is printed for the whole of it, with
-- the summary too; and, for the functions inside, where it stands between two chunks.
pub mod Setting
pub mod Bare
pub mod Lines
pub mod Program
pub mod Progress
