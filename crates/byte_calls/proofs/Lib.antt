-- What the proofs of several calls use.
pub mod Passing
pub mod TwoLengths
pub mod AskedOn
