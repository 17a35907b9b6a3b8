pub mod Hopping
pub mod Giving
pub mod Taking
