pub mod Outside
pub mod Audits
pub mod Accounted
pub mod Chains
pub mod Keeping
pub mod Laws
