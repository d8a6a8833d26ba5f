pub mod Laws
pub mod Lists
pub mod Parts
pub mod Records
pub mod Reports
pub mod Rows
pub mod Searches
pub mod Writes
