pub mod Told
pub mod Demand3
pub mod Packed
pub mod Commissioned
pub mod RowsRead
pub mod LiveDemand
pub mod WorkOrders
