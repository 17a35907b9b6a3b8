pub mod Lasting
pub mod Reaching
pub mod Seeing
pub mod Blocks
pub mod Framing
pub mod Bounds
pub mod Tabling
