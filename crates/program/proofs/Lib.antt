pub mod Stops
pub mod Serving
