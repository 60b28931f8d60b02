pub mod Distances
pub mod Failing
pub mod Stars
pub mod Preparing
