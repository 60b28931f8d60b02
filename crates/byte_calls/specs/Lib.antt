pub mod Taken
pub mod Many
pub mod TestsAndWrites
