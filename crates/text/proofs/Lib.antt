pub mod Bytes
pub mod Decimal
pub mod Hex
pub mod Stores
pub mod Steps
pub mod Laws
