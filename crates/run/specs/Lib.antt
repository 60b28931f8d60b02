pub mod State
pub mod Moves
pub mod Steps
pub mod Reckoning
