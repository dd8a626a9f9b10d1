pub mod Setups
pub mod Endings
pub mod Settings
pub mod Commands
pub mod Configs
