pub mod Areas
pub mod Holding
