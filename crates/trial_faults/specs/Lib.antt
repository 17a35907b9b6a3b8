pub mod Spots
pub mod Turns
