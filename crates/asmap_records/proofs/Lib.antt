pub mod RecordLaws
pub mod OutputLaws
pub mod PackLaws
pub mod Listing
pub mod UnpackLaws
pub mod Reading
pub mod RoundTrip
pub mod Examples
