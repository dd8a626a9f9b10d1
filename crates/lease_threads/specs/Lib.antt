pub mod Systems
pub mod Openings
pub mod Ends
pub mod Reaping
pub mod Retiring
pub mod Sums
pub mod Calling
pub mod LineLaws
