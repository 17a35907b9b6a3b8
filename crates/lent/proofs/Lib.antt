pub mod Loading
pub mod Lending
pub mod Starting
