pub mod Sames
pub mod SameNumbers
pub mod Valids
