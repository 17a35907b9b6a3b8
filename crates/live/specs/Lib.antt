pub mod Live
pub mod LiveDemand
pub mod Fit
