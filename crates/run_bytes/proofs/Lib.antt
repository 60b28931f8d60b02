-- Laws of the byte form of a run.
pub mod Sets
pub mod Written
pub mod RoundTrip
pub mod Kept
pub mod Numbers
