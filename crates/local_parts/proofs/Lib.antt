mod Trees
mod Sounds
mod Wholes
mod Rows
mod Exchanges
mod Owns
mod OwnWholes
mod PartSteps
mod NewCpus
mod NoRounds
mod PopsRounds
pub mod LawProofs
