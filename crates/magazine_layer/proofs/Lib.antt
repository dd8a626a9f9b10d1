pub mod ListLemmas
pub mod OldCounting
pub mod Weighing
pub mod Belonging
pub mod Bounds
pub mod Running
pub mod LawProofs
