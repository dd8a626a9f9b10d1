pub mod Replying
pub mod Words
pub mod Settling
pub mod Outcomes
pub mod Calls
pub mod Sums
