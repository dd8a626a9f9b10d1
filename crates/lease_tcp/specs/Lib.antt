pub mod Workers
pub mod Tidying
pub mod Rounds
