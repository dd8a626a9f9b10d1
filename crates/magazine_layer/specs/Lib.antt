pub mod Magazines
pub mod Alike
pub mod Depots
pub mod Calls
pub mod Rounds
