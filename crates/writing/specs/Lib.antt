pub mod Free
pub mod Writable
