pub mod Numbers
pub mod Requests
pub mod Pools
pub mod Keeps
pub mod Performs
pub mod Situations
pub mod Turned
