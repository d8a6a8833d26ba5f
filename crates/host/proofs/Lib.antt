pub mod Written
pub mod Loading
pub mod Hosting
