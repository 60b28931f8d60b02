pub mod Rounds
pub mod Moments
pub mod ByRounds
