pub mod Layout
pub mod Order
pub mod Stocked
pub mod Tops
pub mod Weights
