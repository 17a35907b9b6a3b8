pub mod Tab
pub mod Runs
pub mod Laws
pub mod Relaid
pub mod View
