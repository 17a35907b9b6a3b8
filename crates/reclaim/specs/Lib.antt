pub mod Reclaimable
pub mod Settled
