pub mod Numbers
pub mod Refusals
pub mod Sending
pub mod Tested
