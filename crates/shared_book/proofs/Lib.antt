pub mod Receipts
mod Told
