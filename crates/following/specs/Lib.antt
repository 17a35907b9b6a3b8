pub mod Lands
