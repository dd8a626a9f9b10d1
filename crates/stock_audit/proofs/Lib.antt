mod Standing
mod Keeping
mod Placing
mod Exporting
mod Climbing
mod Tops
mod ChainSums
mod Reaching
mod Giving
mod OffChain
mod Counting
mod Auditing
pub mod LawProofs
