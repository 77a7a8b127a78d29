pub mod Held
pub mod Short
pub mod Calls
