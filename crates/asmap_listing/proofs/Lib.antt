pub mod ListingLaws
pub mod AddressLaws
pub mod CountLaws
pub mod ScanLaws
pub mod NumberLaws
