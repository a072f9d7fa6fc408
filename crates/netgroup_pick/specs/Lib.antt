pub mod PickRefusal
pub mod Pick
pub mod Demand
