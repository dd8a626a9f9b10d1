pub mod Parts
pub mod Slab
pub mod Standings
pub mod Cache
pub mod Bases
pub mod Sums
pub mod Calls
pub mod Laws
