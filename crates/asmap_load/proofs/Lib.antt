pub mod LoadLaws
pub mod ShapeLaws
pub mod AddressLaws
pub mod PassLaws
