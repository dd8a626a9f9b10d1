pub mod Sums
pub mod Covers
pub mod Keeps
pub mod Follows
pub mod Runs
