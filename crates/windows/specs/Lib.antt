-- ---- what is promised
pub mod Windows
