pub mod Giving
