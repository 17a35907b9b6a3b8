pub mod Reach
pub mod Last
pub mod Order
