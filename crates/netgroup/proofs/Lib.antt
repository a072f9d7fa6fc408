pub mod Which
pub mod Refusals
pub mod Walked
pub mod Calls
pub mod PrefixLaws
