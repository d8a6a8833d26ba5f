pub mod Members
pub mod Slots
pub mod Skips
pub mod Ranks
pub mod Summits
