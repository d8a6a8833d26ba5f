-- What is promised of what a host calls, beside crates/host/specs and crates/screen/specs.
-- ---- what is promised
pub mod Scan
pub mod Pooled
pub mod Evidence
pub mod Counted
