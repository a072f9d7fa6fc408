pub mod Scans
pub mod ScanLaws
