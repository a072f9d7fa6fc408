pub mod Order
pub mod Truth
