pub mod Reckonings
