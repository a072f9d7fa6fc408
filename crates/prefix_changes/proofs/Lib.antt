pub mod ChangeLaws
pub mod TellLaws
pub mod WiderLaws
pub mod RecordLaws
