-- The schedule's lines, and what reading them promises.

-- ---- what is promised
pub mod Line
-- ---- inside: what functions tell each other, and what loops keep
pub mod Reading
