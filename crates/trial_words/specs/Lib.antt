pub mod Layout
pub mod Request
