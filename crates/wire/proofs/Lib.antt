pub mod Requests
pub mod Numbers
pub mod Front
