pub mod Tested
pub mod ByEquations
pub mod Unique
pub mod UniqueBytes
