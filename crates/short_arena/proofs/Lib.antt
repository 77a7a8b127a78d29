pub mod Turns
pub mod Lending
pub mod States
pub mod Sums
pub mod Answers
pub mod Order
pub mod Theorems
