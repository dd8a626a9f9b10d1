pub mod Answers
pub mod ClientState
pub mod Replies
pub mod Calls
pub mod Stored
pub mod Runs
pub mod Laws
