pub mod Answers
pub mod Forms
pub mod Places
