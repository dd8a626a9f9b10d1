pub mod Cpus
pub mod States
pub mod SharedSteps
pub mod OwnSteps
pub mod Steps
pub mod OwnChanges
pub mod Laws
