pub mod Chains
pub mod Searches
mod Slots
mod Writes
