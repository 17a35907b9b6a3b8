pub mod Settles
pub mod Reclaims
