mod RoundLaws
mod Imports
mod Sounds
mod Lengths
mod Slabs
mod Wholes
mod Walks
mod Begins
pub mod Stands
mod Owns
mod Numbers
mod Grows
pub mod Sums
mod Exchanged
pub mod Came
