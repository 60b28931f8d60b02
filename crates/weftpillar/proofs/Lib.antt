-- What the proofs of several calls use, and that a refused call changes nothing.
pub mod Unchanged
