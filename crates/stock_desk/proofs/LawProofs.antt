-- What the proofs of the crates above cite of this crate.
pub use Rattle.stock_desk.proofs.Opening.{opened_unused}
pub use Rattle.stock_desk.proofs.FirstPicture.{opened_is_picture}
