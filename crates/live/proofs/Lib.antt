pub mod Stale
pub mod Behind
pub mod Keeping
pub mod LiveDemand
