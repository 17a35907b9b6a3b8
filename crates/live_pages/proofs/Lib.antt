pub mod Spots
pub mod Parts
