pub mod Row
pub mod Below
pub mod Over
pub mod Ring
pub mod Bytes
