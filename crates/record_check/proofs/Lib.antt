pub mod Records
pub mod Used
