pub mod Rules
pub mod Starred
