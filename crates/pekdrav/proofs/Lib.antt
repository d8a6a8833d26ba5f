pub mod Keys
pub mod Told
pub mod Placing
pub mod Calling
pub mod Counting
pub mod Screening
