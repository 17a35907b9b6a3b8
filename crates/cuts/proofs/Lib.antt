pub mod Recutting
