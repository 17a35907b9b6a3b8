pub mod Branches
pub mod Names
pub mod Sizes
pub mod Checked
