pub mod Alike
pub mod Gathering
pub mod Picked
pub mod Questions
pub mod Searches
pub mod Tabled
pub mod Wished
