pub mod Laws
pub mod Answers
pub mod Theorems
