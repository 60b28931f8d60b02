pub mod Facts
pub mod Others
pub mod Back
pub mod Forth
pub mod Bounds
pub mod Table
