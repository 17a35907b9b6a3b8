pub mod Requests
pub mod Front
