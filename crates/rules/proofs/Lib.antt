pub mod Scans
pub mod Applied
pub mod Notices
