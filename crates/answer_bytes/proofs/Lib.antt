-- The parts of a verdict, and the laws of a place in bytes.
pub mod VerdictParts
pub mod PlaceRoundTrip
