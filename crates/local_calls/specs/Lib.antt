pub mod Asked
pub mod NoFits
pub mod Reaped
pub mod Runs
pub mod Laws
pub mod Looks
pub mod ArenaReaps
