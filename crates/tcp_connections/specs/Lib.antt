pub mod Replying
pub mod Connections
pub mod Arrivals
pub mod Entrances
pub mod Counting
pub mod Rolls
