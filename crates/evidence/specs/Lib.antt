-- What a record shows.

-- ---- what is promised
pub mod Notices
-- ---- inside: what functions tell each other, and what loops keep; Evidence is what the crate tells those above it
pub mod Evidence
pub mod Shown
pub mod Casts
pub mod Reports
