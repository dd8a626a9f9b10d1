pub mod Choosing
pub mod Scans
pub mod Scanned
pub mod Lookups
