pub mod Walking
pub mod Refusing
