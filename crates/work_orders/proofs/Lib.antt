pub mod Way
pub mod Written
pub mod Demand
pub mod Logging
