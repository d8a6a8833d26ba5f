pub mod Counts
pub mod Chosen
