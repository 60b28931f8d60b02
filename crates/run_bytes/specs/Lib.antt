pub mod Numbers
pub mod RunBytes
