pub mod LawProofs
mod CallPaths
mod GoneThrough
mod Sweeping
mod TreeChains
mod Takings
mod CallBounds
mod CallHands
mod NoFitAsks
mod Unplaced
mod PartStops
mod CallStops
