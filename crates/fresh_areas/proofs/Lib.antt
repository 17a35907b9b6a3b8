pub mod Fresh
