-- How a number and a set are written, and how a reader goes over them.

-- ---- what is promised
pub mod Text
-- ---- inside: what functions tell each other, and what loops keep
pub mod Scan
pub mod Written
