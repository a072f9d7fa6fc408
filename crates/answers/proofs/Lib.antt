pub mod Handing
pub mod Promised
pub mod NeverZeroCodes
pub mod NeverZeroMaps
pub mod NeverZeroGroups
pub mod NeverZeroFilters
pub mod NeverZeroLoads
pub mod NeverZeroBuilds
