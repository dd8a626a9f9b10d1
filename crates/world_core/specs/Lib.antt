pub mod WorldState
pub mod Moves
pub mod IsWorld
pub mod Events
pub mod Safe
pub mod Drains
pub mod Setups
pub mod Growing
