pub mod Input
pub mod Filled
pub mod Refused
pub mod Runs
pub mod Totals
pub mod Written
