pub mod Gap
pub mod Distances
