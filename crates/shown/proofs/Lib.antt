pub mod Worked
pub mod Play
pub mod Giving
pub mod Roles
pub mod Casting
