pub mod Holders
pub mod Marking
pub mod Staying
