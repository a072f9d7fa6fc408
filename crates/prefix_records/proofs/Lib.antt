pub mod TilingLaws
pub mod PlaceLaws
pub mod RecordLaws
pub mod CursorLaws
pub mod AddressLaws
